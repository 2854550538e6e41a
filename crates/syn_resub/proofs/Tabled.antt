-- The tables of divisors.
use Rattle.std.proofs.Common.{◌≡◌, ℕ, ◌+◌, ◌<◌, ◌&&◌, true, false, List, [], ◌∷◌, ◌++◌, length, get_or, sym, ap, ◌∙◌, subst, inl, inr, arith}
use Rattle.std.proofs.lemmas.Bool.{cases_lt}
use Rattle.std.proofs.lemmas.List.{get_or_append_left, get_or_push, length_push}
use Rattle.syn_rows.specs.declared.Lit.{Lit}
use Rattle.syn_rows.specs.declared.Row.TheVariants.{And}
use Rattle.syn_rows.specs.Nodes.{has_node}
use Rattle.syn_rows.specs.Reach.{is_and}
use Rattle.syn_rows.specs.Rows.{node_of, row_at}
use Rattle.syn_graph.specs.declared.Graph.{Graph}
use Rattle.syn_truth.specs.declared.Truth.{Truth}
use Rattle.syn_truth.specs.Truth.{AtEach, value_of}
use Rattle.syn_cones.specs.Values.{value_over}
use Rattle.syn_growing.specs.Cones.{AreLeaves}
use Rattle.syn_growing.proofs.InGraphs.{and_there, in_order}
use Rattle.syn_resub.specs.Divided.{AreTablesOf, HasValues, lit_over}
use Rattle.syn_resub.specs.Laws.{AreDivisors}
use Rattle.syn_resub.specs.Resubstitution.{place_of}
use Rattle.syn_resub.proofs.Needing.{divisor_joins, fan_ins_below}
use Rattle.syn_resub.proofs.Places.{before_at}
use Rattle.syn_resub.proofs.Valued.{value_of_and, value_of_leaf, values_again, values_and}

module _ (graph : Graph) (node : ℕ) (leaves nodes : List ℕ) (gate : is_and (row_at graph.rows node) ≡ true) (are : AreLeaves graph.rows node leaves) (divisors : AreDivisors graph.rows leaves node nodes) where
  -- a divisor is a row that is there
  pub divisor_there : (n : ℕ) → has_node nodes n ≡ true → n < length graph.rows
  divisor_there n h = let below = divisors.below n h in let there = and_there graph node gate in omega (arith, below, there)

  -- the table of a leaf
  pub leaf_has : (n i : ℕ) (t : Truth) → has_node nodes n ≡ true → has_node leaves n ≡ true → i ≡ place_of n leaves → t.vars ≡ length leaves → AtEach (length leaves) (λ xs. value_of t xs ≡ get_or xs i false) → HasValues (length leaves) t (value_over graph.rows leaves n)
  leaf_has n i t h leaf place vars each = record {
    vars = vars;
    each = λ xs long. each xs long ∙ ap (λ k. get_or xs k false) place ∙ sym (value_of_leaf graph.rows leaves n xs (in_order graph) (divisor_there n h) leaf long);
  }

  -- the fan-ins of a divisor that isn't a leaf stand before it
  pub fan_ins_listed : (n : ℕ) (a b : Lit) → has_node nodes n ≡ true → has_node leaves n ≡ false → row_at graph.rows n ≡ And a b → (has_node nodes (node_of a) ≡ true) × (has_node nodes (node_of b) ≡ true)
  fan_ins_listed n a b h inner is =
      let (c, d, row, first, second) = divisor_joins graph.rows leaves node nodes n divisors h inner in
      let same = and_same c d a b (sym row ∙ is) in
      (subst (λ l. has_node nodes (node_of l) ≡ true) same.0 first, subst (λ l. has_node nodes (node_of l) ≡ true) same.1 second)
    where
      and_same : (c d a b : Lit) → And c d ≡ And a b → (c ≡ a) × (d ≡ b)
      and_same c d a b e = (cc, cc)

  pub first_before : (k n : ℕ) (a b : Lit) → n ≡ get_or nodes k 0 → row_at graph.rows n ≡ And a b → (i : ℕ) → i < length nodes → get_or nodes i 0 ≡ node_of a → i < k
  first_before k n a b at is i lt here = before_at nodes i k divisors.rise lt (let less = (fan_ins_below graph.rows n a b (in_order graph) is).0 in omega (arith, less, here, at))

  pub second_before : (k n : ℕ) (a b : Lit) → n ≡ get_or nodes k 0 → row_at graph.rows n ≡ And a b → (i : ℕ) → i < length nodes → get_or nodes i 0 ≡ node_of b → i < k
  second_before k n a b at is i lt here = before_at nodes i k divisors.rise lt (let less = (fan_ins_below graph.rows n a b (in_order graph) is).1 in omega (arith, less, here, at))

  -- the table of an AND
  pub and_has : (n : ℕ) (a b : Lit) (t u w : Truth) → has_node nodes n ≡ true → has_node leaves n ≡ false → row_at graph.rows n ≡ And a b → HasValues (length leaves) t (lit_over graph.rows leaves a) → HasValues (length leaves) u (lit_over graph.rows leaves b)
      → w.vars ≡ t.vars → AtEach t.vars (λ xs. value_of w xs ≡ (value_of t xs && value_of u xs)) → HasValues (length leaves) w (value_over graph.rows leaves n)
  and_has n a b t u w h inner is has_t has_u vars each =
      values_again (length leaves) w (λ xs. lit_over graph.rows leaves a xs && lit_over graph.rows leaves b xs) (value_over graph.rows leaves n)
      (λ xs long. sym (value_of_and graph.rows leaves n a b xs (in_order graph) (divisor_there n h) inner is))
      (values_and (length leaves) t u w (lit_over graph.rows leaves a) (lit_over graph.rows leaves b) vars each has_t has_u)

-- one table more
pub tables_more : (graph : Graph) (leaves nodes : List ℕ) (old new : List Truth) (t : Truth) → new ≡ old ++ t ∷ [] → AreTablesOf graph.rows leaves nodes old → HasValues (length leaves) t (value_over graph.rows leaves (get_or nodes (length old) 0))
    → AreTablesOf graph.rows leaves nodes new
tables_more graph leaves nodes old new t is tables has i u lt at = elim (cases_lt i (length old)) [
  | inl less ↦ tables i u less (sym (get_or_append_left old (t ∷ []) u i less) ∙ ap (λ (l : List Truth). get_or l i u) (sym is) ∙ at)
  | inr ge ↦
      let long : length new ≡ length old + 1 = ap (λ (l : List Truth). length l) is ∙ length_push old t in
      let same : length old ≡ i = omega (arith, ge, lt, long) in
      let table : t ≡ u = sym (get_or_push old t u i same) ∙ ap (λ (l : List Truth). get_or l i u) (sym is) ∙ at in
      subst (λ v. HasValues (length leaves) v (value_over graph.rows leaves (get_or nodes i 0))) table (subst (λ k. HasValues (length leaves) t (value_over graph.rows leaves (get_or nodes k 0))) same has)
]
