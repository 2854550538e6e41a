-- What the parts of mapping make is a mapping of the graph.
use Rattle.std.proofs.Common.{◌≡◌, ℕ, ◌+◌, ◌*◌, ◌%◌, ◌<◌, ◌≤◌, Bool, true, All, List, [], ◌∷◌, ◌++◌, length, map, get_or, refl, sym, ap, ap₂, ◌∙◌, inl, inr, subst, arith}
use Rattle.std.specs.List.{list_all, AllByRecursion}
use Rattle.std.proofs.lemmas.Bool.{cases_lt, and_parts, both_ways, ltb-true}
use Rattle.std.proofs.lemmas.List.{get_or_past, get_or_default, get_or_append_left, get_or_push, length-map, map-append}
use Rattle.std.proofs.lemmas.List.Elements.{recursion_from_All}
use Rattle.syn_rows.specs.declared.Lit.{Lit}
use Rattle.syn_rows.specs.declared.Row.{Row}
use Rattle.syn_rows.specs.declared.Row.TheVariants.{Free}
use Rattle.syn_rows.specs.Rows.{node_of, row_at}
use Rattle.syn_rows.specs.Reach.{is_and}
use Rattle.syn_rows.specs.Values.{value_in}
use Rattle.syn_graph.specs.Graphs.{IsGraph}
use Rattle.syn_truth.specs.declared.Truth.{Truth}
use Rattle.syn_rows.specs.Nodes.{has_node}
use Rattle.syn_cones.specs.Cones.{IsTruthOver}
use Rattle.syn_lutnet.specs.LutData.{Lut, IsLutNet, lut_at, no_lut, none_exceeds, ones_of}
use Rattle.syn_lutnet.proofs.Folding.{below, In}
use Rattle.syn_lutnet.proofs.Ones.{ones_give}
use Rattle.syn_graph.specs.declared.Graph.{Graph}
use Rattle.syn_lutnet.specs.declared.luts.Lut as code
use Rattle.syn_lutnet.specs.declared.nets.LutNet.{LutNet}
use Rattle.syn_lutnet.specs.Data.{lut_data, luts_data}
use Rattle.syn_lutnet.specs.Nets.{HasFunctionOf}
use Rattle.syn_covering.specs.Cuts.{AreLutCuts}
use Rattle.syn_covering.specs.Mappings.{HasSignal, AreNeeded, IsNeeded, AreOnesOver, signal_of, signal_lit, node_at, IsMapping}
use Rattle.syn_covering.specs.Making.{number_at, numbered_lit, AreLutsOf, HasDepthOver, IsMappedBy}
use Rattle.syn_covering.specs.Needs.{IsSwept, IsGate, marked_from}
use Rattle.syn_covering.proofs.Counting.{nodes_fit}
use Rattle.syn_covering.proofs.Depths.{mapping_deep}
use Rattle.syn_covering.proofs.Fitting.{mapping_small}
use Rattle.syn_covering.proofs.LutNets.{mapping_net, out_count, outs_stay}
use Rattle.syn_covering.proofs.Mapped.{gate_is_and, mapping_keeps}
use Rattle.syn_covering.proofs.Matching.{has_node_at}
use Rattle.syn_covering.proofs.Numbered.{marked_has, marked_rise}

-- a node that needs a LUT is an AND that is there
pub needed_gate : (cut : ℕ → List ℕ) (rows : List Row) (lits : List Lit) (n : ℕ) → IsNeeded cut rows lits n → IsGate rows n
needed_gate cut rows lits n h =
    let gate : is_and (row_at rows n) ≡ true = h (λ m. is_and (row_at rows m)) (λ m t j d lt a. a) (λ j d lt a. a) in (
      elim (cases_lt n (length rows)) [
        | inl lt ↦ lt
        | inr past ↦ absurd (both_ways (is_and (row_at rows n)) (ap is_and (get_or_past rows n Free past)) gate)
      ],
      gate,
    )

pub marked_gates : (cut : ℕ → List ℕ) (rows : List Row) (lits : List Lit) (marks : List Bool) → IsSwept cut rows lits marks 0 → (nodes : List ℕ) → nodes ≡ marked_from 0 marks → All (IsGate rows) nodes
marked_gates cut rows lits marks swept nodes e i d lt =
    needed_gate cut rows lits (get_or nodes i d) (swept.needed (get_or nodes i d)
    (sym (marked_has marks (get_or nodes i d)) ∙ ap (λ (ns : List ℕ). has_node ns (get_or nodes i d)) (sym e) ∙ subst (λ x. has_node nodes x ≡ true) (sym (get_or_default nodes i d 0 lt)) (has_node_at nodes i lt)))

-- the cut of a marked node lies below it
pub marked_in : (k : ℕ) (cut : ℕ → List ℕ) (rows : List Row) (lits : List Lit) (marks : List Bool) (from : ℕ) → AreLutCuts k rows cut → IsSwept cut rows lits marks from → (n : ℕ) → value_in marks n ≡ true → In n (cut n)
marked_in k cut rows lits marks from fit swept n marked = (fit n (needed_gate cut rows lits n (swept.needed n marked)).1).below

-- cuts of fewer leaves
pub more_leaves : (k j : ℕ) (cut : ℕ → List ℕ) (rows : List Row) → k ≤ j → AreLutCuts k rows cut → AreLutCuts j rows cut
more_leaves k j cut rows le fit n gate =
    let is = fit n gate in
    record { cut = is.cut; rising = is.rising; below = is.below; two = is.two; few = omega (arith, is.few, le) }

-- the marked nodes are those that need LUTs
pub marked_needed : (cut : ℕ → List ℕ) (rows : List Row) (lits : List Lit) (marks : List Bool) → IsSwept cut rows lits marks 0 → AreNeeded cut rows lits (marked_from 0 marks)
marked_needed cut rows lits marks swept = record {
  rise = marked_rise 0 marks;
  needed = λ n h. swept.needed n (sym (marked_has marks n) ∙ h);
  all = λ n need. marked_has marks n ∙ need (value_in marks) (λ m t. swept.done m (omega arith) t) swept.seen;
}

-- the minterms of a node's function over leaves
pub ones_over : (rows : List Row) (leaves : List ℕ) (root : ℕ) (t : Truth) → IsTruthOver rows leaves root t → AreOnesOver rows leaves root (ones_of t)
ones_over rows leaves root t is xs long v fits same =
    is.values xs long v fits same ∙ sym ((ones_give t).values xs (long ∙ sym is.vars))

-- one LUT more
pub luts_pushed : (P : ℕ → Lut → Type 0) (done new : List code.Lut) (l : code.Lut) (i : ℕ) → new ≡ done ++ l ∷ [] → length done ≡ i → ((j : ℕ) → j < i → P j (lut_at (luts_data done) j)) → P i (lut_data l)
    → (j : ℕ) → j < i + 1 → P j (lut_at (luts_data new) j)
luts_pushed P done new l i e long each here j lt =
    subst (λ (ls : List code.Lut). P j (lut_at (luts_data ls) j)) (sym e)
    (subst (λ (ls : List Lut). P j (lut_at ls j)) (sym (map-append lut_data done (l ∷ [])))
    (elim (cases_lt j i) [
      | inl less ↦ subst (P j) (sym (get_or_append_left (luts_data done) (lut_data l ∷ []) no_lut j (omega (arith, less, long, length-map done lut_data)))) (each j less)
      | inr ge ↦
          let same : j ≡ i = omega (arith, lt, ge) in
          subst (P j) (sym (get_or_push (luts_data done) (lut_data l) no_lut j (omega (arith, same, long, length-map done lut_data)))) (subst (λ n. P n (lut_data l)) (sym same) here)
    ]))

abbrev with_sign : ℕ → Lit → Lit
with_sign s l = record { 0 = 2 * s + l.0 % 2 }

module _ (count k : ℕ) (cut : ℕ → List ℕ) (rows : List Row) (lits : List Lit) (marks : List Bool) (nodes numbers : List ℕ) (luts : List Lut) (outs : List Lit) (fit : AreLutCuts k rows cut) (graph : IsGraph count rows lits) (swept : IsSwept cut rows lits marks 0) (nodes_are : nodes ≡ marked_from 0 marks) (numbered : (m : ℕ) → m < length marks → HasSignal count (marked_from 0 marks) m → number_at numbers m ≡ signal_of count (marked_from 0 marks) m) (made : AreLutsOf cut rows numbers nodes luts) (outs_are : outs ≡ map (numbered_lit numbers) lits) where
  has_is : (m : ℕ) → has_node nodes m ≡ value_in marks m
  has_is m = ap (λ (ns : List ℕ). has_node ns m) nodes_are ∙ marked_has marks m

  -- a node that is an AND only where it is marked has its signal's number
  number_is : (m : ℕ) → m < length rows → (is_and (row_at rows m) ≡ true → value_in marks m ≡ true) → number_at numbers m ≡ signal_of count nodes m
  number_is m lt f =
      let has : HasSignal count (marked_from 0 marks) m = elim (cases_lt m (count + 1)) [
        | inl low ↦ inl low
        | inr ge ↦ inr (marked_has marks m ∙ f (gate_is_and m (row_at rows m) (graph.hashed.gates m (omega (arith, ge)) lt)))
      ] in
      numbered m (omega (arith, lt, swept.count)) has ∙ ap (λ (ns : List ℕ). signal_of count ns m) (sym nodes_are)

  inputs_are : (n : ℕ) → n < length rows → (xs : List ℕ) → In n xs → AllByRecursion (λ m. is_and (row_at rows m) ≡ true → value_in marks m ≡ true) xs → map (number_at numbers) xs ≡ map (signal_of count nodes) xs
  inputs_are n lt [] h all = refl
  inputs_are n lt (x ∷ xs) h all =
      let parts = and_parts (below n x) (list_all (below n) xs) h in
      let less = ltb-true x n parts.0 in
      ap₂ (λ (y : ℕ) (ys : List ℕ). y ∷ ys) (number_is x (omega (arith, less, lt)) all.0) (inputs_are n lt xs parts.1 all.1)

  outs_map : (ls : List Lit) → AllByRecursion (λ l. number_at numbers (node_of l) ≡ signal_of count nodes (node_of l)) ls → map (numbered_lit numbers) ls ≡ map (signal_lit count nodes) ls
  outs_map [] all = refl
  outs_map (l ∷ ls) all = ap₂ (λ (x : Lit) (xs : List Lit). x ∷ xs) (ap (λ s. with_sign s l) all.0) (outs_map ls all.1)

  pub assembled : IsMapping cut count rows lits nodes luts outs
  assembled = record {
    nodes_are = subst (AreNeeded cut rows lits) (sym nodes_are) (marked_needed cut rows lits marks swept);
    long = made.long;
    inputs = λ j lt. (made.each j lt).inputs ∙ inputs_at j lt;
    ones = λ j lt. (made.each j lt).ones;
    rising_ones = λ j lt. (made.each j lt).rise;
    small_ones = λ j lt. (made.each j lt).small;
    outs_are = outs_are ∙ outs_map lits (recursion_from_All (λ l. number_at numbers (node_of l) ≡ signal_of count nodes (node_of l)) lits
        (λ i d lt. number_is (node_of (get_or lits i d)) (graph.within i d lt) (swept.seen i d lt)));
  }
    where
      inputs_at : (j : ℕ) → j < length nodes → map (number_at numbers) (cut (node_at nodes j)) ≡ map (signal_of count nodes) (cut (node_at nodes j))
      inputs_at j lt =
          let marked : value_in marks (node_at nodes j) ≡ true = sym (has_is (node_at nodes j)) ∙ has_node_at nodes j lt in
          let there = (needed_gate cut rows lits (node_at nodes j) (swept.needed (node_at nodes j) marked)).0 in
          inputs_are (node_at nodes j) there (cut (node_at nodes j)) (marked_in k cut rows lits marks 0 fit swept (node_at nodes j) marked)
          (recursion_from_All (λ m. is_and (row_at rows m) ≡ true → value_in marks m ≡ true) (cut (node_at nodes j)) (swept.done (node_at nodes j) (omega arith) marked))

-- the same by what the parts are known to be of a graph
pub mapped : (gr : Graph) (k : ℕ) (cut : ℕ → List ℕ) (rows : List Row) (lits : List Lit) (marks slice : List Bool) (nodes nodes2 numbers numbers2 : List ℕ) (luts : List Lut) (outs : List Lit) → AreLutCuts k gr.rows cut → rows ≡ gr.rows → lits ≡ gr.observed
    → IsSwept cut rows lits marks 0 → slice ≡ marks → nodes ≡ marked_from 0 slice → nodes2 ≡ nodes → numbers2 ≡ numbers
    → ((m : ℕ) → m < length slice → HasSignal gr.source_count (marked_from 0 slice) m → number_at numbers m ≡ signal_of gr.source_count (marked_from 0 slice) m) → AreLutsOf cut rows numbers2 nodes2 luts → outs ≡ map (numbered_lit numbers2) lits
    → IsMapping cut gr.source_count gr.rows gr.observed nodes luts outs
mapped gr k cut rows lits marks slice nodes nodes2 numbers numbers2 luts outs fit rows_are lits_are swept slice_is nodes_are nodes_same numbers_same numbered made outs_are =
    assembled gr.source_count k cut gr.rows gr.observed marks nodes numbers luts outs fit gr.graph
    (subst (λ (rs : List Row). IsSwept cut rs gr.observed marks 0) rows_are (subst (λ (ls : List Lit). IsSwept cut rows ls marks 0) lits_are swept))
    (nodes_are ∙ ap (marked_from 0) slice_is)
    (subst (λ (bs : List Bool). (m : ℕ) → m < length bs → HasSignal gr.source_count (marked_from 0 bs) m → number_at numbers m ≡ signal_of gr.source_count (marked_from 0 bs) m) slice_is numbered)
    (subst (λ (rs : List Row). AreLutsOf cut rs numbers nodes luts) rows_are
    (subst (λ (ns : List ℕ). AreLutsOf cut rows ns nodes luts) numbers_same (subst (λ (ns : List ℕ). AreLutsOf cut rows numbers2 ns luts) nodes_same made)))
    (outs_are ∙ ap₂ (λ (ns : List ℕ) (ls : List Lit). map (numbered_lit ns) ls) numbers_same lits_are)

-- What holds of a LUT net that has the LUTs of a graph's cuts.

pub mapped_function : (k : ℕ) (cut : ℕ → List ℕ) (gr : Graph) (net : LutNet) → AreLutCuts k gr.rows cut → net.source_count ≡ gr.source_count → IsMappedBy cut gr net → HasFunctionOf gr net
unfolding IsMappedBy
mapped_function k cut gr net fit same (nodes, mapping) = record {
  sources = same;
  count = out_count gr.source_count nodes gr.observed net.observed mapping.outs_are;
  stay = outs_stay gr.source_count nodes gr.observed net.observed mapping.outs_are;
  values = mapping_keeps gr.source_count k cut gr.rows gr.observed nodes (luts_data net.luts) net.observed fit gr.graph mapping;
}

pub mapped_depth : (k : ℕ) (cut : ℕ → List ℕ) (gr : Graph) (net : LutNet) → AreLutCuts k gr.rows cut → IsMappedBy cut gr net → HasDepthOver cut gr net
unfolding IsMappedBy
mapped_depth k cut gr net fit (nodes, mapping) = mapping_deep gr.source_count k cut gr.rows gr.observed nodes (luts_data net.luts) net.observed fit gr.graph mapping

pub mapped_inputs : (cut : ℕ → List ℕ) (gr : Graph) (net : LutNet) → IsMappedBy cut gr net → (k : ℕ) → AreLutCuts k gr.rows cut → none_exceeds k (luts_data net.luts) ≡ true
unfolding IsMappedBy
mapped_inputs cut gr net (nodes, mapping) k fit = mapping_small gr.source_count k cut gr.rows gr.observed nodes (luts_data net.luts) net.observed fit gr.graph mapping

pub mapped_count : (k : ℕ) (cut : ℕ → List ℕ) (gr : Graph) (net : LutNet) → AreLutCuts k gr.rows cut → IsMappedBy cut gr net → length net.luts + (gr.source_count + 1) ≤ length gr.rows
unfolding IsMappedBy
mapped_count k cut gr net fit (nodes, mapping) = omega (arith, nodes_fit gr.source_count k cut gr.rows gr.observed nodes (luts_data net.luts) net.observed fit gr.graph mapping, mapping.long, length-map net.luts lut_data)

-- the type of LUT nets keeps that its LUTs are a net over its sources
pub mapped_net : (k : ℕ) (cut : ℕ → List ℕ) (gr : Graph) (nodes : List ℕ) (luts : List Lut) (outs : List Lit) → AreLutCuts k gr.rows cut → IsMapping cut gr.source_count gr.rows gr.observed nodes luts outs → IsLutNet gr.source_count luts outs
mapped_net k cut gr nodes luts outs fit mapping = mapping_net gr.source_count k cut gr.rows gr.observed nodes luts outs fit gr.graph mapping

pub mapped_few : (k : ℕ) (cut : ℕ → List ℕ) (gr : Graph) (nodes : List ℕ) (luts : List Lut) (outs : List Lit) → AreLutCuts k gr.rows cut → IsMapping cut gr.source_count gr.rows gr.observed nodes luts outs → gr.source_count + 1 + length luts ≤ length gr.rows
mapped_few k cut gr nodes luts outs fit mapping = omega (arith, nodes_fit gr.source_count k cut gr.rows gr.observed nodes luts outs fit gr.graph mapping, mapping.long)
