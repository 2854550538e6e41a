-- The LUTs of cuts are a covering, so that the least depth of all is attained.
use Rattle.std.proofs.Common.{◌≡◌, ℕ, ◌+◌, ◌-◌, ◌*◌, ◌/◌, ◌%◌, ◌<◌, ◌≤◌, nat_lt, true, List, [], ◌∷◌, length, map, refl, sym, ap, ap₂, ◌∙◌, subst, inl, inr, arith}
use Rattle.std.specs.List.{AllByRecursion}
use Rattle.std.proofs.lemmas.Bool.{cond-false, cond-true, le-ltb, lt-ltb}
use Rattle.std.proofs.lemmas.List.Elements.{recursion_from_All}
use Rattle.syn_rows.specs.declared.Lit.{Lit}
use Rattle.syn_rows.specs.Nodes.{has_node}
use Rattle.syn_rows.specs.Rows.{node_of, row_at}
use Rattle.syn_rows.specs.Reach.{is_and}
use Rattle.syn_cones.specs.Cones.{IsCut}
use Rattle.syn_graph.specs.declared.Graph.{Graph}
use Rattle.syn_lutnet.specs.LutData.{lut_at}
use Rattle.syn_lutnet.specs.declared.nets.LutNet.{LutNet}
use Rattle.syn_lutnet.specs.Data.{luts_data}
use Rattle.syn_covering.specs.Cuts.{AreLutCuts}
use Rattle.syn_covering.specs.Making.{IsMappedBy}
use Rattle.syn_covering.specs.Mappings.{HasSignal, node_at, place_of, signal_lit, signal_of}
use Rattle.syn_covering.proofs.Fitting.{mapping_small}
use Rattle.syn_covering.proofs.LutNets.{mapping_net}
use Rattle.syn_covering.proofs.Mapped.{luts_made, node_is_and, observed_signal}
use Rattle.syn_covering.proofs.Matching.{AreMade, has_node_at, node_at_place, signal_node, signal_source}
use Rattle.syn_flow.specs.Coverings.{lit_for, MappingIsCovering, stands_for}
use Rattle.syn_flow.specs.Flows.{IsCoveredBy}

-- the signal of a node stands for the node
stands_back : (count : ℕ) (nodes : List ℕ) (m : ℕ) → ((n : ℕ) → has_node nodes n ≡ true → count + 1 ≤ n) → HasSignal count nodes m → stands_for count nodes (signal_of count nodes m) ≡ m
stands_back count nodes m high (inl low) =
    ap (stands_for count nodes) (signal_source count nodes m low) ∙ cond-true (nat_lt m (count + 1)) m (node_at nodes (m - (count + 1))) (lt-ltb m (count + 1) low)
stands_back count nodes m high (inr there) =
    let at : count + 1 + place_of m nodes - (count + 1) ≡ place_of m nodes = omega arith in
    ap (stands_for count nodes) (signal_node count nodes m (high m there))
    ∙ cond-false (nat_lt (count + 1 + place_of m nodes) (count + 1)) (count + 1 + place_of m nodes) (node_at nodes (count + 1 + place_of m nodes - (count + 1))) (le-ltb (count + 1 + place_of m nodes) (count + 1) (omega arith))
    ∙ ap (node_at nodes) at ∙ node_at_place m nodes there

leaves_back : (count : ℕ) (nodes : List ℕ) (n : ℕ) → ((m : ℕ) → has_node nodes m ≡ true → count + 1 ≤ m) → (ms : List ℕ) → AllByRecursion (λ m. (m < n) × HasSignal count nodes m) ms
    → map (stands_for count nodes) (map (signal_of count nodes) ms) ≡ ms
leaves_back count nodes n high [] all = refl
leaves_back count nodes n high (m ∷ ms) all = ap₂ (λ (x : ℕ) (xs : List ℕ). x ∷ xs) (stands_back count nodes m high all.0.1) (leaves_back count nodes n high ms all.1)

-- and so does its literal

abbrev lit : ℕ → Lit
lit n = record { 0 = n }

lit_back : (count : ℕ) (nodes : List ℕ) (l : Lit) → ((m : ℕ) → has_node nodes m ≡ true → count + 1 ≤ m) → HasSignal count nodes (node_of l) → lit_for count nodes (signal_lit count nodes l) ≡ l
lit_back count nodes l high has =
    let half : (2 * signal_of count nodes (node_of l) + l.0 % 2) / 2 ≡ signal_of count nodes (node_of l) = twice_half (signal_of count nodes (node_of l)) (l.0 % 2) (omega arith) in
    let odd : (2 * signal_of count nodes (node_of l) + l.0 % 2) % 2 ≡ l.0 % 2 = twice_odd (signal_of count nodes (node_of l)) (l.0 % 2) (omega arith) in
    let back = ap (stands_for count nodes) half ∙ stands_back count nodes (node_of l) high has in
    ap₂ (λ a b. lit (2 * a + b)) back odd ∙ ap lit (let whole : 2 * (l.0 / 2) + l.0 % 2 ≡ l.0 = omega arith in whole)
  where
    twice_half : (s r : ℕ) → r < 2 → (2 * s + r) / 2 ≡ s
    twice_half s r lt = omega arith

    twice_odd : (s r : ℕ) → r < 2 → (2 * s + r) % 2 ≡ r
    twice_odd s r lt = omega arith

lits_back : (count : ℕ) (nodes : List ℕ) → ((m : ℕ) → has_node nodes m ≡ true → count + 1 ≤ m) → (ls : List Lit) → AllByRecursion (λ l. HasSignal count nodes (node_of l)) ls
    → map (lit_for count nodes) (map (signal_lit count nodes) ls) ≡ ls
lits_back count nodes high [] all = refl
lits_back count nodes high (l ∷ ls) all = ap₂ (λ (x : Lit) (xs : List Lit). x ∷ xs) (lit_back count nodes l high all.0) (lits_back count nodes high ls all.1)

pub mapping_covers : MappingIsCovering
mapping_covers count k cut rows lits nodes luts outs fit graph mapping = record {
  net = mapping_net count k cut rows lits nodes luts outs fit graph mapping;
  few = mapping_small count k cut rows lits nodes luts outs fit graph mapping;
  long = sym mapping.long;
  ands = λ j lt. is_gate j (omega (arith, lt, mapping.long));
  cuts = λ j lt. cut_at j (omega (arith, lt, mapping.long));
  stand = ap (map (lit_for count nodes)) mapping.outs_are ∙ lits_back count nodes are.high lits (recursion_from_All (λ l. HasSignal count nodes (node_of l)) lits
      (observed_signal count k cut rows lits nodes luts outs fit graph mapping));
}
  where
    are : AreMade count cut nodes luts
    are = luts_made count k cut rows lits nodes luts outs fit graph mapping

    is_gate : (j : ℕ) → j < length nodes → is_and (row_at rows (node_at nodes j)) ≡ true
    is_gate j lt = node_is_and count k cut rows lits nodes luts outs fit graph mapping (node_at nodes j) (has_node_at nodes j lt)

    cut_at : (j : ℕ) → j < length nodes → IsCut rows (map (stands_for count nodes) (lut_at luts j).inputs) (node_at nodes j)
    cut_at j lt = subst (λ (leaves : List ℕ). IsCut rows leaves (node_at nodes j))
        (sym (ap (map (stands_for count nodes)) (mapping.inputs j lt) ∙ leaves_back count nodes (node_at nodes j) are.high (cut (node_at nodes j)) (are.leaves (node_at nodes j) (has_node_at nodes j lt))))
        (fit (node_at nodes j) (is_gate j lt)).cut

pub mapped_covers : (k : ℕ) (cut : ℕ → List ℕ) (gr : Graph) (net : LutNet) → AreLutCuts k gr.rows cut → IsMappedBy cut gr net → IsCoveredBy k gr net
unfolding IsMappedBy
mapped_covers k cut gr net fit (nodes, mapping) = record {
  nodes = nodes;
  covering = mapping_covers gr.source_count k cut gr.rows gr.observed nodes (luts_data net.luts) net.observed fit gr.graph mapping;
}
