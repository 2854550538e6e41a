-- The mapping by chosen cuts has as many LUTs as nodes need one, and costs as much.
use Rattle.std.proofs.Common.{◌≡◌, ℕ, suc, ◌+◌, ◌*◌, ◌≤◌, ◌<◌, nat_lt, nat_le, nat_eq, Bool, true, false, List, [], ◌∷◌, length, sum_by, refl, ap, ◌∙◌, subst, inl, inr, arith}
use Rattle.std.specs.List.{list_all}
use Rattle.std.proofs.lemmas.Bool.{cases_lt, or_cases, and_parts, both_ways, leb-true, ltb-true, eqb-true}
use Rattle.std.proofs.lemmas.List.{length-map}
use Rattle.std.proofs.lemmas.List.Sums.{AllPass-from_list_all, sum_by-cons}
use Rattle.std.proofs.lemmas.Nat.{mul-le}
use Rattle.std.proofs.Math.Nat.{add-mul, one-mul}
use Rattle.syn_rows.specs.Nodes.{has_node}
use Rattle.syn_rows.proofs.Nodes.{has_here, has_there}
use Rattle.syn_graph.specs.declared.Graph.{Graph}
use Rattle.syn_lutnet.specs.LutData.{Lut, lut_at, no_lut, none_exceeds, rising}
use Rattle.syn_lutnet.specs.declared.nets.LutNet.{LutNet}
use Rattle.syn_lutnet.specs.Data.{lut_data, luts_data}
use Rattle.syn_lutnet.proofs.LutParts.{lut_parts}
use Rattle.syn_covering.specs.Making.{IsMappedBy}
use Rattle.syn_covering.specs.Mappings.{node_at, signal_of}
use Rattle.syn_map.specs.Labels.{chosen}
use Rattle.syn_map.specs.Mappings.{IsMapped}
use Rattle.syn_area.specs.Areas.{CostAlike, cost_of, luts_cost, nodes_cost}
use Rattle.syn_area.specs.Plain.{AreNeeded, IsNoDearer}

all_has : (p : ℕ → Bool) (ms : List ℕ) (n : ℕ) → list_all p ms ≡ true → has_node ms n ≡ true → p n ≡ true
all_has p [] n a h = absurd (both_ways false refl h)
all_has p (m ∷ ms) n a h =
    let parts = and_parts (p m) (list_all p ms) a in
    elim (or_cases (nat_eq m n) (has_node ms n) h) [
      | inl e ↦ subst (λ k. p k ≡ true) (eqb-true m n e) parts.0
      | inr t ↦ all_has p ms n parts.1 t
    ]

abbrev Within : List ℕ → List ℕ → Type 0
Within xs ys = (n : ℕ) → has_node xs n ≡ true → has_node ys n ≡ true

-- a rising list within another costs no more, whatever its nodes cost
no_dearer : (cost : ℕ → ℕ) (xs ys : List ℕ) → rising xs ≡ true → rising ys ≡ true → Within xs ys → sum_by cost xs ≤ sum_by cost ys
no_dearer cost [] ys r s h = omega arith
no_dearer cost (x ∷ xs) [] r s h = absurd (both_ways false refl (h x (has_here x xs)))
no_dearer cost (x ∷ xs) (y ∷ ys) r s h =
    let p = and_parts (list_all (nat_lt x) xs) (rising xs) r in
    let q = and_parts (list_all (nat_lt y) ys) (rising ys) s in
    elim (or_cases (nat_eq y x) (has_node ys x) (h x (has_here x xs))) [
      | inl e ↦ omega (
        arith,
        sum_by-cons cost x xs,
        sum_by-cons cost y ys,
        ap cost (eqb-true y x e),
        no_dearer cost xs ys p.1 q.1 (λ n t. elim (or_cases (nat_eq y n) (has_node ys n) (h n (has_there x n xs t))) [
          | inl f ↦ absurd (omega (arith, ltb-true x n (all_has (nat_lt x) xs n p.0 t), eqb-true y x e, eqb-true y n f))
          | inr g ↦ g
        ]),
      )
      | inr t ↦
          let low = ltb-true y x (all_has (nat_lt y) ys x q.0 t) in
          omega (
            arith,
            sum_by-cons cost y ys,
            no_dearer cost (x ∷ xs) ys r q.1 (λ n u. elim (or_cases (nat_eq x n) (has_node xs n) u) [
              | inl e ↦ subst (λ k. has_node ys k ≡ true) (eqb-true x n e) t
              | inr v ↦ elim (or_cases (nat_eq y n) (has_node ys n) (h n u)) [
                | inl f ↦ absurd (omega (arith, low, ltb-true x n (all_has (nat_lt x) xs n p.0 v), eqb-true y n f))
                | inr g ↦ g
              ]
            ]),
          )
    ]

-- where each costs one, a list costs as much as it is long
one_each : (xs : List ℕ) → sum_by (λ n. 1) xs ≡ length xs
one_each [] = refl
one_each (x ∷ xs) = omega (arith, sum_by-cons (λ n. 1) x xs, one_each xs)

-- a net of the chosen cuts has no more LUTs than nodes need one,
pub plain_fewest : (k : ℕ) (graph : Graph) (net : LutNet) (nodes : List ℕ) → IsMapped k graph net → AreNeeded k graph.rows graph.observed nodes → length net.luts ≤ length nodes
unfolding IsMappedBy
plain_fewest k graph net nodes (own, is) all =
    omega (arith, no_dearer (λ n. 1) own nodes is.nodes_are.rise all.rise (λ n h. all.all n (is.nodes_are.needed n h)), one_each own, one_each nodes, is.long, length-map net.luts lut_data)

-- LUTs that cost one by one what nodes cost
same_cost : (f : Lut → ℕ) (g : ℕ → ℕ) (luts : List Lut) (nodes : List ℕ) → length luts ≡ length nodes → ((j : ℕ) → j < length nodes → f (lut_at luts j) ≡ g (node_at nodes j)) → sum_by f luts ≡ sum_by g nodes
same_cost f g [] [] long each = refl
same_cost f g [] (n ∷ ns) long each = absurd (omega (arith, long))
same_cost f g (l ∷ ls) [] long each = absurd (omega (arith, long))
same_cost f g (l ∷ ls) (n ∷ ns) long each =
    omega (arith, sum_by-cons f l ls, sum_by-cons g n ns, each 0 (omega arith), same_cost f g ls ns (omega (arith, long)) (λ j lt. each (suc j) (omega (arith, lt))))

-- and its LUTs cost no more than those of the nodes
pub plain_cheap : (k : ℕ) (areas : List ℕ) (graph : Graph) (net : LutNet) (nodes : List ℕ) → IsMapped k graph net → AreNeeded k graph.rows graph.observed nodes
    → luts_cost areas (luts_data net.luts) ≤ nodes_cost k graph.rows areas nodes
unfolding IsMappedBy
plain_cheap k areas graph net nodes (own, is) all =
    let cost : ℕ → ℕ = λ n. cost_of areas (length (chosen k graph.rows n)) in
    let same : luts_cost areas (luts_data net.luts) ≡ sum_by cost own =
    same_cost (λ l. cost_of areas (length l.inputs)) cost (luts_data net.luts) own is.long
    (λ j lt. ap (λ (ns : List ℕ). cost_of areas (length ns)) (is.inputs j lt) ∙ ap (cost_of areas) (length-map (chosen k graph.rows (node_at own j)) (signal_of graph.source_count own))) in
    omega (arith, same, no_dearer cost own nodes is.nodes_are.rise all.rise (λ n h. all.all n (is.nodes_are.needed n h)))

-- LUTs that all cost the same
each_costs : (c : ℕ) (f : Lut → ℕ) (luts : List Lut) → ((j : ℕ) → j < length luts → f (lut_at luts j) ≡ c) → sum_by f luts ≡ length luts * c
each_costs c f [] each = omega arith
each_costs c f (l ∷ ls) each = omega (arith, add-mul (length ls) 1 c, one-mul c, sum_by-cons f l ls, each 0 (omega arith), each_costs c f ls (λ j lt. each (suc j) (omega (arith, lt))))

alike_cost : (k : ℕ) (areas : List ℕ) (net : LutNet) → CostAlike k areas → none_exceeds k (luts_data net.luts) ≡ true → luts_cost areas (luts_data net.luts) ≡ length net.luts * cost_of areas 2
alike_cost k areas net alike few =
    let luts : List Lut = luts_data net.luts in
    each_costs (cost_of areas 2) (λ l. cost_of areas (length l.inputs)) luts
    (λ j lt. alike (length (lut_at luts j).inputs)
    (leb-true 2 (length (lut_at luts j).inputs) (lut_parts (net.source_count + 1 + j) (lut_at luts j) (net.net.luts_fit j lt)).many)
    (leb-true (length (lut_at luts j).inputs) k (AllPass-from_list_all (λ l. nat_le (length l.inputs) k) luts few j no_lut lt)))
    ∙ ap (λ n. n * cost_of areas 2) (length-map net.luts lut_data)

fewest : (c n m cost most : ℕ) → cost ≡ n * c → most ≡ m * c → cost ≤ most → (cost ≡ most → n ≤ m) → n ≤ m
fewest c n m cost most own other low fewer = elim (cases_lt m n) [
  | inl lt ↦ fewer (omega (arith, own, other, low, mul-le m c n c (omega (arith, lt)) (omega arith)))
  | inr ge ↦ ge
]

-- where LUTs all cost the same, a net that is no dearer has no more of them
pub fewer_alike : (k : ℕ) (areas : List ℕ) (net plain : LutNet) → CostAlike k areas → none_exceeds k (luts_data net.luts) ≡ true → none_exceeds k (luts_data plain.luts) ≡ true → IsNoDearer areas net plain → length net.luts ≤ length plain.luts
fewer_alike k areas net plain alike few few_plain no_dearer =
    fewest (cost_of areas 2) (length net.luts) (length plain.luts) (luts_cost areas (luts_data net.luts)) (luts_cost areas (luts_data plain.luts)) (alike_cost k areas net alike few) (alike_cost k areas plain alike few_plain)
    no_dearer.cost no_dearer.fewer
