-- A sound proposal keeps the values of the observed signals, and its graph has fewer ANDs by what it saves.
use Rattle.std.proofs.Common.{◌≡◌, ℕ, ℤ, pos, ◌+ℤ◌, ◌≤ℤ◌, ◌+◌, ◌<◌, ◌≤◌, Bool, true, false, All, List, [], ◌∷◌, length, map, refl, sym, ap, ap₂, ◌∙◌, arith}
use Rattle.std.proofs.lemmas.List.{length-map}
use Rattle.std.proofs.lemmas.Int.{ints}
use Rattle.std.proofs.lemmas.List.Elements.{All-head, All-tail}
use Rattle.syn_rows.specs.declared.Lit.{Lit}
use Rattle.syn_rows.specs.declared.Row.{Row}
use Rattle.syn_rows.specs.Rows.{node_of, row_at, InOrder}
use Rattle.syn_rows.specs.Reach.{Ands, is_and}
use Rattle.syn_rows.specs.Values.{Fits, OneValuation, given_by, is_open, lit_value, rows_function, value_in, values_of}
use Rattle.syn_rows.proofs.Folds.{lit_value-same, one_valuation_is}
use Rattle.syn_rows.proofs.Reaches.{one_ands_is}
use Rattle.syn_graph.specs.declared.Graph.{Graph}
use Rattle.syn_hashed.proofs.Orders.{hashed_in_order}
use Rattle.syn_plan.specs.Gates.{literal_value, values_after}
use Rattle.syn_graph.specs.Relations.{SameFunction}
use Rattle.syn_hashed.specs.Compacting.{HasSources, IsCompacted, SameValues}
use Rattle.syn_gain.specs.Replacements.{Replacement, leaf_values, rows_after_by, SavedBy}
use Rattle.syn_gain.proofs.Extending.{values_go_on}
use Rattle.syn_gain.proofs.Owning.{IsBelow, root_there}
use Rattle.syn_cones.proofs.Swapping.{all_fit_between}
use Rattle.syn_apply.specs.Sound.{IsSoundBy}

-- in a valuation that fits, the plan has the root's value
pub plan_is_root : (rows : List Row) (r : Replacement) (v : ℕ → Bool) → IsSoundBy rows r → Fits rows v
    → literal_value (values_after (false ∷ leaf_values r.count (map v r.leaves)) r.gates) r.out ≡ v r.root
plan_is_root rows r v sound fits =
    let t = sound.truth.0 in
    let xs = map v r.leaves in
    let long : length xs ≡ length r.leaves = length-map r.leaves v in
    sound.truth.2 xs long ∙ sym (sound.truth.1.values xs long v (all_fit_between rows r.leaves r.root v fits) refl)

same_lits : (v w : ℕ → Bool) (k : ℕ) → ((n : ℕ) → n < k → w n ≡ v n) → (ls : List Lit) → All (λ l. node_of l < k) ls → map (lit_value w) ls ≡ map (lit_value v) ls
same_lits v w k same [] h = refl
same_lits v w k same (l ∷ ls) h =
    ap₂ (λ b bs. b ∷ bs) (lit_value-same w v l (same (node_of l) (All-head (λ x. node_of x < k) l ls h))) (same_lits v w k same ls (All-tail (λ x. node_of x < k) l ls h))

pub kept_values : (graph : Graph) (r : Replacement) → IsBelow r → is_and (row_at graph.rows r.root) ≡ true → IsSoundBy graph.rows r → (rows : List Row) (lits : List Lit)
    → SameValues graph.source_count (rows_after_by graph.rows r) graph.observed rows lits
    → (bits : List Bool) → rows_function rows lits bits ≡ rows_function graph.rows graph.observed bits
kept_values graph r below gate sound rows lits same bits = sym (same bits w.0 w.1 has) ∙ same_lits u w.0 (length graph.rows) w.2 graph.observed graph.graph.within
  where
    order : InOrder graph.rows
    order = hashed_in_order graph.source_count graph.rows graph.graph.hashed

    one : OneValuation graph.rows (given_by bits)
    one = one_valuation_is graph.rows (given_by bits) order refl

    u : ℕ → Bool
    u = value_in (values_of (given_by bits) graph.rows)

    w : (w : ℕ → Bool) × Fits (rows_after_by graph.rows r) w × ((n : ℕ) → n < length graph.rows → w n ≡ u n)
    w = values_go_on graph.rows r.root r.count r.leaves r.gates r.out u order below.positive (root_there graph r.root gate) below.low one.0
        (plan_is_root graph.rows r u sound one.0)

    has : HasSources graph.source_count (given_by bits) w.0
    has n lt =
        let low : n < length graph.rows = omega (arith, graph.graph.hashed.there) in
        w.2 n low ∙ one.1 n low (ap is_open (graph.graph.hashed.front n lt))

-- so the graph of the compacted rows has the graph's function
pub kept_same : (graph : Graph) (r : Replacement) → IsBelow r → is_and (row_at graph.rows r.root) ≡ true → IsSoundBy graph.rows r → (new : Graph) → new.source_count ≡ graph.source_count
    → IsCompacted graph.source_count (rows_after_by graph.rows r) graph.observed new.rows new.observed → SameFunction graph new
kept_same graph r below gate sound new sources c = record {
  sources = sources;
  count = c.same_count;
  stay = c.sources_stay;
  values = kept_values graph r below gate sound new.rows new.observed c.same_values;
}

-- by numbers
falls : (j k c s g r : ℕ) (z : ℤ) → pos j ≡ (pos k +ℤ z) → g ≤ s + 1 + k → r ≡ c + (s + 1) → j ≡ c → (pos g +ℤ z) ≤ℤ pos r
falls j k c s g r z e le is same = omega (arith, ints)

pub count_falls : (graph : Graph) (r : Replacement) (c : ℕ) → Ands graph.rows graph.observed c → c + (graph.source_count + 1) ≡ length graph.rows → (rows : List Row)
    → ((k : ℕ) → Ands (rows_after_by graph.rows r) graph.observed k → length rows ≤ graph.source_count + 1 + k)
    → (s : ℤ) → SavedBy graph.rows graph.observed r s → (pos (length rows) +ℤ s) ≤ℤ pos (length graph.rows)
count_falls graph r c all is rows fewer s saved =
    falls saved.0 saved.1 c graph.source_count (length rows) (length graph.rows) s saved.4 (fewer saved.1 saved.3) (sym is)
    (one_ands_is graph.rows graph.observed saved.0 c saved.2 all)
