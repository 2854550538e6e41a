-- Valuations of a netlist agree on the signals that a closed set of nodes has where they agree on its sources.
use Rattle.std.proofs.Common.{◌≡◌, ℕ, zero, suc, ◌+◌, ◌<◌, ◌≤◌, Bool, true, false, List, [], ◌∷◌, ◌++◌, length, map, get_or, refl, sym, ap, ◌∙◌, subst, inl, inr, arith}
use Rattle.std.proofs.lemmas.List.{get_or_past, map-append}
use Rattle.std.proofs.lemmas.Bool.{cases_lt}
use Rattle.syn_rows.specs.declared.Row.{Row}
use Rattle.syn_rows.specs.Rows.{InOrder, node_of, row_at}
use Rattle.syn_rows.specs.Reach.{IsClosed}
use Rattle.syn_rows.specs.Values.{OneValuation, given_by, is_open, value_in, values_of}
use Rattle.syn_rows.proofs.Folds.{length-values, lit_value-same, one_valuation_is}
use Rattle.syn_netlist.specs.Lists.{Latch, Netlist, latch_output, observed, sources}
use Rattle.syn_netlist.specs.Order.{Ordered}
use Rattle.syn_netlist.specs.Values.{Consistent}
use Rattle.syn_netlist.specs.Words.{has_word}
use Rattle.syn_network.specs.GraphShape.{GraphHasFunction, GraphShape, lit_of, rows_of}
use Rattle.syn_seq.specs.Runs.{free_signals}
use Rattle.syn_seq.specs.Sweeping.{needing_rows}
use Rattle.syn_seq.specs.Rounds.{latch_at, latch_node, no_latch}
use Rattle.syn_seq.proofs.Alike.{sources_are}
use Rattle.syn_seq.proofs.Keeping.{head_there, there_behind}
use Rattle.syn_seq.proofs.Needed.{closed_agree}
use Rattle.syn_seq.proofs.NeedRows.{closed_rows}
use Rattle.syn_seq.proofs.Observed.{observed_value}

two_parts : (v w : List ℕ → Bool) (free : List (List ℕ)) (bs cs : List Bool) → map v free ≡ map w free → (i : ℕ) → ((j : ℕ) → length free + j ≡ i → get_or bs j false ≡ get_or cs j false) → get_or (map v free ++ bs) i false ≡ get_or (map w free ++ cs) i false
two_parts v w [] bs cs e i h = h i (let p : 0 + i ≡ i = grind (arith) in p)
two_parts v w (x ∷ xs) bs cs e zero h = let p : v x ≡ w x = cc in p
two_parts v w (x ∷ xs) bs cs e (suc i) h =
    two_parts v w xs bs cs (let p : map v xs ≡ map w xs = cc in p) i (λ j s. h j (let p : length (x ∷ xs) + j ≡ suc i = grind (arith, s) in p))

latch_part : (v w : List ℕ → Bool) (ls : List Latch) (j : ℕ) → (j < length ls → v (get_or ls j no_latch).output ≡ w (get_or ls j no_latch).output) → get_or (map v (map latch_output ls)) j false ≡ get_or (map w (map latch_output ls)) j false
latch_part v w [] j h = refl
latch_part v w (l ∷ ls) zero h = h (head_there l ls)
latch_part v w (l ∷ ls) (suc j) h = latch_part v w ls j (λ lt. h (there_behind l ls j lt))

-- valuations agree on the free signals, and on each latch in the set
pub record AgreeIn (n : Netlist) (set : ℕ → Bool) (v w : List ℕ → Bool) : Type 0 where
  pub free : map v (free_signals n.frame) ≡ map w (free_signals n.frame)
  pub latches : (j : ℕ) → j < length n.frame.latches → set (latch_node n j) ≡ true → v (latch_at n j).output ≡ w (latch_at n j).output

source_values : (n : Netlist) (v : List ℕ → Bool) → map v (sources n.frame) ≡ map v (free_signals n.frame) ++ map v (map latch_output n.frame.latches)
source_values n v = ap (λ ws. map v ws) (sym (sources_are n.frame)) ∙ map-append v (free_signals n.frame) (map latch_output n.frame.latches)

-- so they give the nodes of the set the same
given_same : (n : Netlist) (set : ℕ → Bool) (v w : List ℕ → Bool) → AgreeIn n set v w → (k : ℕ) → set k ≡ true → given_by (map v (sources n.frame)) k ≡ given_by (map w (sources n.frame)) k
given_same n set v w a zero s = refl
given_same n set v w a (suc i) s =
    ap (λ bits. get_or bits i false) (source_values n v)
    ∙ two_parts v w (free_signals n.frame) (map v (map latch_output n.frame.latches)) (map w (map latch_output n.frame.latches)) a.free i
    (λ j e. latch_part v w n.frame.latches j (λ lt. a.latches j lt
    (subst (λ (k : ℕ). set k ≡ true) (let p : suc i ≡ length (free_signals n.frame) + 1 + j = grind (arith, e) in p) s)))
    ∙ sym (ap (λ bits. get_or bits i false) (source_values n w))

open_same : (rows : List Row) (g h : ℕ → Bool) → OneValuation rows g → OneValuation rows h → (k : ℕ) → g k ≡ h k → is_open (row_at rows k) ≡ true → value_in (values_of g rows) k ≡ value_in (values_of h rows) k
open_same rows g h og oh k e o = elim (cases_lt k (length rows)) [
  | inl lt ↦ og.1 k lt o ∙ e ∙ sym (oh.1 k lt o)
  | inr past ↦
      get_or_past (values_of g rows) k false (let p : length (values_of g rows) ≤ k = grind (arith, length-values g rows) in p)
      ∙ sym (get_or_past (values_of h rows) k false (let p : length (values_of h rows) ≤ k = grind (arith, length-values h rows) in p))
]

pub needed_same : GraphHasFunction → (n : Netlist) → Ordered n → GraphShape n → (set : ℕ → Bool) → IsClosed (needing_rows n) set → (v w : List ℕ → Bool) → Consistent n v → Consistent n w → AgreeIn n set v w
    → (x : List ℕ) → has_word (observed n.frame) x ≡ true → set (node_of (lit_of n x)) ≡ true → v x ≡ w x
needed_same law n o s set closed v w cv cw a x t need =
    let order : InOrder (rows_of n) = (law n s o).0 in
    let g : ℕ → Bool = given_by (map v (sources n.frame)) in
    let h : ℕ → Bool = given_by (map w (sources n.frame)) in
    let og : OneValuation (rows_of n) g = one_valuation_is (rows_of n) g order refl in
    let oh : OneValuation (rows_of n) h = one_valuation_is (rows_of n) h order refl in
    observed_value law n o s v cv x t
    ∙ lit_value-same (value_in (values_of g (rows_of n))) (value_in (values_of h (rows_of n))) (lit_of n x)
    (closed_agree (rows_of n) order (value_in (values_of g (rows_of n))) (value_in (values_of h (rows_of n))) og.0 oh.0 set (closed_rows n set closed)
    (λ k s o. open_same (rows_of n) g h og oh k (given_same n set v w a k s) o) (node_of (lit_of n x)) need)
    ∙ sym (observed_value law n o s w cw x t)
