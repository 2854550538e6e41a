-- Unions of kept cuts of the fan-ins of an AND are cuts of it that a LUT may read, and so are the fan-ins.
use Rattle.std.proofs.Common.{◌≡◌, ℕ, ◌<◌, ◌≤◌, ◌&&◌, nat_eq, nat_le, nat_lt, true, false, List, [], ◌∷◌, length, map, refl, sym, ap, ◌∙◌, subst, inr, not, arith}
use Rattle.std.proofs.lemmas.Bool.{and_parts, and_from, both_ways, ltb-true, lt-ltb}
use Rattle.std.proofs.lemmas.List.{get_or-map}
use Rattle.syn_rows.specs.declared.Lit.{Lit}
use Rattle.syn_rows.specs.declared.Row.{Row}
use Rattle.syn_rows.specs.declared.Row.TheVariants.{Free, Source, And, Alias}
use Rattle.syn_rows.specs.Rows.{node_of, row_at}
use Rattle.syn_rows.specs.Reach.{is_and}
use Rattle.syn_hashed.specs.Hashed.{is_gate, IsHashed}
use Rattle.syn_hashed.proofs.Orders.{and_inside}
use Rattle.syn_cones.proofs.Swapping.{fan_ins_are_cut}
use Rattle.syn_graph.specs.declared.Graph.{Graph}
use Rattle.syn_cuts.proofs.Cutting.{cut_union}
use Rattle.syn_cuts.proofs.Rising.{IsCutOf, fan_ins, union_of, upper}
use Rattle.syn_covering.specs.Cuts.{AreLutCuts, IsLutCut}
use Rattle.syn_area.specs.Kept as kept
use Rattle.syn_area.specs.Kept.{AreCandidates, AreListed, AreVisited, IsKept, Joins, cut_in}
use Rattle.syn_area.specs.declared.lists.Listed.{Listed}

-- an AND of hashed rows is a gate
gate_of : (count : ℕ) (rows : List Row) → IsHashed count rows → (n : ℕ) (a b : Lit) → row_at rows n ≡ And a b → n < length rows → is_gate n (And a b) ≡ true
gate_of count rows hashed n a b e lt = subst (λ (r : Row). is_gate n r ≡ true) e (hashed.gates n (and_inside count rows hashed n (ap is_and e)).0 lt)

as_cut : (rows : List Row) (m : ℕ) (c : List ℕ) → IsKept rows m c → IsCutOf m c
as_cut rows m c p = record { rising = p.rising; low = p.low; sized = p.sized }

pub joins : (k count : ℕ) (rows : List Row) → IsHashed count rows → (n : ℕ) (a b : Lit) → row_at rows n ≡ And a b → n < length rows → Joins k rows (node_of a) (node_of b) n
joins k count rows hashed n a b e lt c d p q few =
    let f = fan_ins n a b (gate_of count rows hashed n a b e lt) in
    let u = union_of (node_of a) (node_of b) n c d f.apart f.first_low f.second_low (as_cut rows (node_of a) c p) (as_cut rows (node_of b) d q) in
    record { cut = cut_union rows c d a b n e p.cut q.cut; rising = u.0; below = u.1; two = u.2; few = few }

-- the candidates of an AND
pub joined : (gr : Graph) (k n : ℕ) (a b : Lit) (left right : ℕ) (listed : List Listed) (chosen kept : List (List ℕ)) → row_at gr.rows n ≡ And a b → n < length gr.rows → left ≡ node_of a → right ≡ node_of b → AreVisited k gr.rows listed chosen
    → ((rows : List Row) → Joins k rows left right n → AreListed rows listed → IsLutCut k rows n (cut_in chosen n) → AreCandidates k rows n kept)
    → AreCandidates k gr.rows n kept
joined gr k n a b left right listed chosen kept e lt is_a is_b before have =
    have gr.rows
    (subst (λ x. Joins k gr.rows x right n) (sym is_a) (subst (λ y. Joins k gr.rows (node_of a) y n) (sym is_b) (joins k gr.source_count gr.rows gr.graph.hashed n a b e lt)))
    before.kept
    (before.fit n (ap is_and e))

-- a cut that a LUT may read is kept as it is
pub as_kept : (k : ℕ) (rows : List Row) (n : ℕ) (c : List ℕ) → IsLutCut k rows n c → IsKept rows n c
as_kept k rows n c is = record { cut = is.cut; rising = is.rising; low = upper n c is.below; sized = inr is.two }

-- the smaller literal of a gate is of the smaller node
first_less : (n : ℕ) (a b : Lit) → is_gate n (And a b) ≡ true → node_of a < node_of b
first_less n a b h =
    let f = fan_ins n a b h in
    let p = and_parts (nat_le 2 a.0) (nat_lt a.0 b.0 && (not (nat_eq (node_of a) (node_of b)) && nat_lt (node_of b) n)) h in
    let q = and_parts (nat_lt a.0 b.0) (not (nat_eq (node_of a) (node_of b)) && nat_lt (node_of b) n) p.1 in
    let less : a.0 < b.0 = ltb-true a.0 b.0 q.0 in
    omega (arith, less, f.apart)

fan_ins_fit : (k count : ℕ) (rows : List Row) → 2 ≤ k → IsHashed count rows → (n : ℕ) (a b : Lit) → row_at rows n ≡ And a b → n < length rows → IsLutCut k rows n (node_of a ∷ node_of b ∷ [])
fan_ins_fit k count rows two hashed n a b e lt =
    let gate = gate_of count rows hashed n a b e lt in
    let f = fan_ins n a b gate in
    record {
      cut = fan_ins_are_cut rows n a b e;
      rising = and_from (nat_lt 0 (node_of a)) (nat_lt (node_of a) (node_of b) && true) (lt-ltb 0 (node_of a) f.first)
          (and_from (nat_lt (node_of a) (node_of b)) true (lt-ltb (node_of a) (node_of b) (first_less n a b gate)) refl);
      below = and_from (nat_lt (node_of a) n) (nat_lt (node_of b) n && true) (lt-ltb (node_of a) n f.first_low) (and_from (nat_lt (node_of b) n) true (lt-ltb (node_of b) n f.second_low) refl);
      two = omega arith;
      few = two;
    }

-- the fan-ins of all ANDs are such cuts
pub fan_ins_chosen : (k count : ℕ) (rows : List Row) (chosen : List (List ℕ)) → 2 ≤ k → IsHashed count rows → chosen ≡ map kept.fan_ins rows → AreLutCuts k rows (cut_in chosen)
fan_ins_chosen k count rows chosen two hashed e n a =
    let there = (and_inside count rows hashed n a).1 in
    let at : cut_in chosen n ≡ kept.fan_ins (row_at rows n) = ap (λ (l : List (List ℕ)). cut_in l n) e ∙ get_or-map kept.fan_ins rows n Free [] there in
    subst (IsLutCut k rows n) (sym at) (go (row_at rows n) refl a there)
  where
    go : (row : Row) → row_at rows n ≡ row → is_and row ≡ true → n < length rows → IsLutCut k rows n (kept.fan_ins row)
    go Free e h lt = absurd (both_ways false refl h)
    go Source e h lt = absurd (both_ways false refl h)
    go (And a b) e h lt = fan_ins_fit k count rows two hashed n a b e lt
    go (Alias a) e h lt = absurd (both_ways false refl h)
