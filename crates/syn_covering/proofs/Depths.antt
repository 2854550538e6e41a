-- The depth of LUTs of cuts is the greatest label of an observed node, where an AND's label is one more than the greatest of a leaf of its cut.
use Rattle.std.proofs.Common.{◌≡◌, ℕ, suc, ◌+◌, ◌-◌, ◌<◌, ◌≤◌, ◌&&◌, nat_le, Bool, true, All, List, map, length, get_or, sym, ap, ◌∙◌, inl, inr, arith}
use Rattle.std.proofs.lemmas.Bool.{cases_lt, and_parts, and_from, leb-true, le-leb}
use Rattle.std.proofs.lemmas.List.{length-map, get_or-map}
use Rattle.syn_rows.specs.declared.Lit.{Lit}
use Rattle.syn_rows.specs.declared.Row.{Row}
use Rattle.syn_rows.specs.Rows.{node_of, row_at}
use Rattle.syn_rows.specs.Reach.{is_and}
use Rattle.syn_graph.specs.Graphs.{IsGraph}
use Rattle.syn_rows.specs.Nodes.{has_node}
use Rattle.syn_lutnet.specs.LutData.{Lut, lut_at, greatest, lut_depth, signal_depths, depth_in, net_depth}
use Rattle.syn_lutnet.proofs.Deepest.{greatest_map, greatest_at, greatest_any, greatest_le, all_zero, all_zero_at, length-all_zero, depth_local}
use Rattle.syn_covering.specs.Cuts.{AreLutCuts, AreDepths}
use Rattle.syn_covering.specs.Mappings.{HasSignal, node_at, place_of, signal_of, IsMapping, MappingHasDepth}
use Rattle.syn_lutnet.proofs.Folding.{length-luts}
use Rattle.syn_covering.proofs.Matching.{has_node_at, place_of_at, signal_source, signal_node, signals_match}
use Rattle.syn_covering.proofs.Mapped.{luts_made, node_high, node_is_and, observed_signal}

module _ (count k : ℕ) (cut : ℕ → List ℕ) (rows : List Row) (lits : List Lit) (nodes : List ℕ) (luts : List Lut) (outs : List Lit) (fit : AreLutCuts k rows cut) (graph : IsGraph count rows lits) (mapping : IsMapping cut count rows lits nodes luts outs) (label : ℕ → ℕ) (deep : AreDepths rows label cut) where
  is_gate : (n : ℕ) → has_node nodes n ≡ true → is_and (row_at rows n) ≡ true
  is_gate n h = node_is_and count k cut rows lits nodes luts outs fit graph mapping n h

  abbrev depths : List ℕ
  depths = signal_depths count luts

  label_source : (m : ℕ) → m < count + 1 → label m ≡ 0
  label_source m lt = deep.others m (ap is_and (graph.hashed.front m lt))

  lut_deep : (n : ℕ) → has_node nodes n ≡ true → (u : ℕ → ℕ) → map u (lut_at luts (place_of n nodes)).inputs ≡ map label (cut n) → lut_depth u (lut_at luts (place_of n nodes)) ≡ label n
  lut_deep n h u e = ap (λ x. x + 1) (greatest_map u (lut_at luts (place_of n nodes)).inputs ∙ ap (greatest (λ d. d)) e ∙ sym (greatest_map label (cut n))) ∙ sym (deep.ands n (is_gate n h))

  depth_is : (m : ℕ) → HasSignal count nodes m → depth_in depths (signal_of count nodes m) ≡ label m
  depth_is m has = signals_match count cut nodes luts (luts_made count k cut rows lits nodes luts outs fit graph mapping) lut_depth 0 depth_local (all_zero (suc count)) label
      (omega (arith, length-all_zero count)) (λ j lt. all_zero_at (suc count) j ∙ sym (label_source j lt)) lut_deep (suc m) m (omega arith) has

  abbrev top : ℕ
  top = greatest label (map node_of lits)

  node_low : (n : ℕ) → has_node nodes n ≡ true → label n ≤ top
  node_low n h = leb-true (label n) top (and_parts (nat_le (label n) top) (is_and (row_at rows n)) (mapping.nodes_are.needed n h set closed seen)).0
    where
      set : ℕ → Bool
      set m = nat_le (label m) top && is_and (row_at rows m)

      closed : (m : ℕ) → set m ≡ true → All (λ l. is_and (row_at rows l) ≡ true → set l ≡ true) (cut m)
      closed m t j d lt a =
          let parts = and_parts (nat_le (label m) top) (is_and (row_at rows m)) t in
          let high = leb-true (label m) top parts.0 in
          let one = deep.ands m parts.1 in
          let leaf = greatest_at label (cut m) j d lt in
          and_from (nat_le (label (get_or (cut m) j d)) top) (is_and (row_at rows (get_or (cut m) j d))) (le-leb (label (get_or (cut m) j d)) top (omega (arith, high, one, leaf))) a

      seen : All (λ l. is_and (row_at rows (node_of l)) ≡ true → set (node_of l) ≡ true) lits
      seen i d lt a =
          let at = get_or-map node_of lits i d 0 lt in
          let high : label (get_or (map node_of lits) i 0) ≤ top = greatest_at label (map node_of lits) i 0 (omega (arith, lt, length-map lits node_of)) in
          let same = ap label at in
          and_from (nat_le (label (node_of (get_or lits i d))) top) (is_and (row_at rows (node_of (get_or lits i d)))) (le-leb (label (node_of (get_or lits i d))) top (omega (arith, high, same))) a

  each_low : (i : ℕ) → i < length depths → get_or depths i 0 ≤ top
  each_low i lt = elim (cases_lt i (count + 1)) [
    | inl low ↦
        let here : depth_in depths i ≡ label i = ap (depth_in depths) (sym (signal_source count nodes i low)) ∙ depth_is i (inl low) in
        omega (arith, here, label_source i low)
    | inr ge ↦
        let j : ℕ = i - (count + 1) in
        let inside : i - (count + 1) < length nodes = omega (arith, lt, ge, mapping.long, length-luts lut_depth 0 (all_zero (suc count)) luts, length-all_zero count) in
        let h = has_node_at nodes (i - (count + 1)) inside in
        let n : ℕ = node_at nodes (i - (count + 1)) in
        let at : signal_of count nodes (node_at nodes (i - (count + 1))) ≡ i =
        omega (arith, ge, signal_node count nodes (node_at nodes (i - (count + 1))) (node_high count k cut rows lits nodes luts outs fit graph mapping (node_at nodes (i - (count + 1))) h), place_of_at nodes mapping.nodes_are.rise (i - (count + 1)) inside) in
        let here : depth_in depths i ≡ label (node_at nodes (i - (count + 1))) = ap (depth_in depths) (sym at) ∙ depth_is (node_at nodes (i - (count + 1))) (inr h) in
        omega (arith, here, node_low (node_at nodes (i - (count + 1))) h)
  ]

  each_high : (i : ℕ) → i < length (map node_of lits) → label (get_or (map node_of lits) i 0) ≤ greatest (λ d. d) depths
  each_high i lt =
      let inside : i < length lits = omega (arith, lt, length-map lits node_of) in
      let no : Lit = record { 0 = 0 } in
      let at = get_or-map node_of lits i (record { 0 = 0 }) 0 inside in
      let here = depth_is (node_of (get_or lits i (record { 0 = 0 }))) (observed_signal count k cut rows lits nodes luts outs fit graph mapping i (record { 0 = 0 }) inside) in
      let high = greatest_any depths (signal_of count nodes (node_of (get_or lits i (record { 0 = 0 })))) in
      let same = ap label at in
      omega (arith, here, high, same)

  pub has_depth : net_depth count luts ≡ greatest label (map node_of lits)
  has_depth =
      let low : greatest (λ d. d) depths ≤ top = greatest_le (λ d. d) depths top each_low in
      let high : top ≤ greatest (λ d. d) depths = greatest_le label (map node_of lits) (greatest (λ d. d) depths) each_high in
      omega (arith, low, high)

pub mapping_deep : MappingHasDepth
mapping_deep = has_depth
