-- LUTs that were made of a graph, under its names, are as they are written what the recipes for mapping make of it.
use Rattle.std.proofs.Common.{◌≡◌, ℕ, zero, suc, ◌+◌, ◌≤◌, true, List, map, length, refl, sym, ap, ap₂, ◌∙◌, subst, subst₂, arith, IfOk, IfSome, Option, Result, Ok, Err}
use Rattle.std.proofs.lemmas.List.{length-drop, length-map}
use Rattle.syn_rows.specs.declared.Lit.{Lit}
use Rattle.syn_rows.specs.declared.Row.{Row}
use Rattle.syn_rows.specs.Rows.{node_of}
use Rattle.syn_graph.specs.declared.Graph.{Graph}
use Rattle.std.specs.declared.alloc.AllocError.{AllocError}
use Rattle.syn_netlist.specs.Frames.{frame_in}
use Rattle.syn_netlist.specs.Lists.{Frame, Netlist, sources}
use Rattle.syn_netlist.specs.Meaning.{SameMeaning}
use Rattle.syn_network.specs.declared.networks.Network.{Network}
use Rattle.syn_network.specs.declared.lut_networks.LutNetwork.{LutNetwork}
use Rattle.syn_network.specs.GraphShape.{observed_of, rows_of}
use Rattle.syn_network.specs.Laws.{MappedKeepsMeaning}
use Rattle.syn_network.specs.LutShape.{count_of, depth_of, luts_of}
use Rattle.syn_network.specs.LutShape as shape
use Rattle.syn_network.specs.LutSpelling.{NetworkOfLuts, NetworkSpellsLuts, lut_network}
use Rattle.syn_network.specs.Networks.{IsNamed}
use Rattle.syn_network.specs.Spelling.{NetworkOfGraph}
use Rattle.syn_network.proofs.LutNaming.{named_net, names_fit}
use Rattle.syn_network.specs.Written as graphs
use Rattle.syn_network.specs.WrittenLuts as luts
use Rattle.syn_lutnet.specs.LutData.{greatest, net_depth, none_exceeds}
use Rattle.syn_lutnet.specs.Data.{lut_data, luts_data}
use Rattle.syn_lutnet.specs.Nets.{HasFunctionOf}
use Rattle.syn_lutnet.specs.declared.nets.LutNet.{LutNet}
use Rattle.syn_absorb.specs.Flips.{AllShown, MostShown}
use Rattle.syn_absorb.specs.Needed.{AllDepend}
use Rattle.syn_flow.specs.Coverings.{IsLeastDepth}
use Rattle.syn_covering.specs.Making.{IsMappedBy}
use Rattle.syn_map.specs.Labels.{label_of}
use Rattle.syn_map.specs.Mappings.{IsMapped}
use Rattle.syn_area.specs.Areas.{CostAlike, cost_of, luts_cost, nodes_cost}
use Rattle.syn_area.specs.Plain.{AreNeeded}
use Rattle.syn_settled.specs.Fewest.{AreFewLutsOf, AreFewestLutsOf}
use Rattle.syn_words.specs.Commands.{luts_alike}
use Rattle.syn_words.specs.declared.inputs.LutSizes.{LutSizes}
use Rattle.syn_shell.specs.Networks.{Written, graph_network, mapped_network}
use Rattle.syn_shell.specs.Bodies.{AreFewestLuts, AreLeastLuts, AreLuts, ArePlainLuts, AreSettledIn, depth_over, greatest_label}
use Rattle.syn_shell.specs.Makes.{AreSettled, AreaIsNoWorse, IsInLuts, IsLeastMappedTo, IsMappedForArea, IsMappedLoosely, IsMappedTo}
use Rattle.syn_shell.proofs.RemadeGraphs.{spelled, written}

-- what a graph and LUTs under names are as netlists
pub record LutLaws : Type 0 where
  pub graphs : NetworkOfGraph
  pub luts : NetworkOfLuts
  pub means : MappedKeepsMeaning

-- LUTs of the function of a graph, under its names
pub record AreOf (was : Network) (net : LutNet) (made : LutNetwork) : Type 0 where
  pub names : frame_in made.frame ≡ frame_in was.frame
  pub body : made.body ≡ net
  pub function : HasFunctionOf was.body net

-- LUTs as they are written
abbrev pub written_luts : LutNetwork → Written
written_luts made = mapped_network (luts.network_of made)

-- what the netlist of LUTs spells
pub spelled_luts : NetworkOfLuts → (made : LutNetwork) → NetworkSpellsLuts (frame_in made.frame) (luts_data made.body.luts) made.body.observed
spelled_luts spells made = spells (frame_in made.frame) (luts_data made.body.luts) made.body.observed made.frame.clocks_once made.frame.sources_once made.net

-- the number of LUTs, and how deep they are
many_luts : NetworkOfLuts → (made : LutNetwork) (net : LutNet) → made.body ≡ net → count_of (luts.network_of made) ≡ length net.luts
many_luts spells made net is = (spelled_luts spells made).count ∙ length-map made.body.luts lut_data ∙ ap (λ (n : LutNet). length n.luts) is

-- the LUTs, as they are written
luts_there : NetworkOfLuts → (made : LutNetwork) (net : LutNet) → made.body ≡ net → luts_of (luts.network_of made) ≡ luts_data net.luts
luts_there spells made net is = (spelled_luts spells made).same_luts ∙ ap (λ (n : LutNet). luts_data n.luts) is

deep_luts : LutLaws → (was : Network) (net : LutNet) (made : LutNetwork) → AreOf was net made → depth_of (luts.network_of made) ≡ depth_over was.body net
deep_luts laws was net made h =
    (spelled_luts laws.luts made).depth
    ∙ ap₂ (λ (count : ℕ) (n : LutNet). net_depth count (luts_data n.luts)) (ap (λ (f : Frame). length (sources f)) h.names ∙ sym was.named.sources_are) h.body

in_luts : LutLaws → (k : ℕ) (was : Network) (net : LutNet) (made : LutNetwork) → AreOf was net made → AreLuts k was.body net → IsInLuts k (written was) (written_luts made)
in_luts laws k was net made h are = record {
  same = subst (λ (f : Frame). SameMeaning (graphs.network_of was) (lut_network f (luts_data made.body.luts) made.body.observed)) (sym h.names)
      (laws.means (frame_in was.frame) was.body made.body was.frame.clocks_once was.frame.sources_once was.named (subst (HasFunctionOf was.body) (sym h.body) h.function));
  ordered = (spelled_luts laws.luts made).ordered;
  mapped = refl;
  shape = (spelled_luts laws.luts made).shape k (subst (λ (n : LutNet). none_exceeds k (luts_data n.luts) ≡ true) (sym h.body) are.inputs);
  fewer = omega (arith, many_luts laws.luts made net h.body, (spelled laws.graphs was).ands, length-drop (length (sources (frame_in was.frame)) + 1) was.body.rows, was.named.sources_are, are.count);
}

-- the greatest label of an observed node, by the rows that the netlist spells
same_greatest : NetworkOfGraph → (k : ℕ) (was : Network)
    → greatest (label_of k (rows_of (graphs.network_of was))) (map node_of (observed_of (graphs.network_of was))) ≡ greatest_label k was.body
same_greatest spells k was =
    let s = spelled spells was in
    ap₂ (λ (rs : List Row) (ls : List Lit). greatest (label_of k rs) (map node_of ls)) s.same_rows s.same_lits

-- nodes that need LUTs, by those rows
needed_there : NetworkOfGraph → (k : ℕ) (was : Network) (nodes : List ℕ) → AreNeeded k was.body.rows was.body.observed nodes → AreNeeded k (rows_of (graphs.network_of was)) (observed_of (graphs.network_of was)) nodes
needed_there spells k was nodes are =
    let s = spelled spells was in
    subst (λ (rs : List Row). AreNeeded k rs (observed_of (graphs.network_of was)) nodes) (sym s.same_rows) (subst (λ (ls : List Lit). AreNeeded k was.body.rows ls nodes) (sym s.same_lits) are)

needed_here : NetworkOfGraph → (k : ℕ) (was : Network) (nodes : List ℕ) → AreNeeded k (rows_of (graphs.network_of was)) (observed_of (graphs.network_of was)) nodes → AreNeeded k was.body.rows was.body.observed nodes
needed_here spells k was nodes are =
    let s = spelled spells was in
    subst (λ (rs : List Row). AreNeeded k rs was.body.observed nodes) s.same_rows (subst (λ (ls : List Lit). AreNeeded k (rows_of (graphs.network_of was)) ls nodes) s.same_lits are)

-- one LUT of the chosen cuts for each node that needs one
needed_nodes : (k : ℕ) (graph : Graph) (net : LutNet) → IsMapped k graph net → (nodes : List ℕ) × AreNeeded k graph.rows graph.observed nodes × (length net.luts ≡ length nodes)
unfolding IsMappedBy
needed_nodes k graph net (nodes, mapping) =
    (nodes, record { rise = mapping.nodes_are.rise; needed = mapping.nodes_are.needed; all = mapping.nodes_are.all }, sym (length-map net.luts lut_data) ∙ mapping.long)

-- as deep as the greatest label, one LUT for each node that needs one
pub mapped_to : LutLaws → (k : ℕ) (was : Network) (net : LutNet) (made : LutNetwork) → AreOf was net made → ArePlainLuts k was.body net → IsMappedTo k (written was) (written_luts made)
mapped_to laws k was net made h are =
    let there = needed_nodes k was.body net are.mapping in
    record {
      luts = in_luts laws k was net made h are.luts;
      depth = deep_luts laws was net made h ∙ are.depth ∙ sym (same_greatest laws.graphs k was);
      nodes = there.0;
      needed = needed_there laws.graphs k was there.0 there.1;
      count = many_luts laws.luts made net h.body ∙ there.2;
    }

-- what holds of the observed literals as they are made holds of them as they are written
observed_there : LutLaws → (was : Network) (net : LutNet) (made : LutNetwork) → AreOf was net made → (holds : ℕ → List Lit → Type 0) → holds (was.body.source_count + 1) net.observed
    → holds (length (sources (frame_in made.frame)) + 1) (shape.observed_of (luts.network_of made))
observed_there laws was net made h holds there =
    let many : was.body.source_count ≡ length (sources (frame_in made.frame)) = was.named.sources_are ∙ ap (λ (f : Frame). length (sources f)) (sym h.names) in
    subst (holds (length (sources (frame_in made.frame)) + 1)) (sym (spelled_luts laws.luts made).same_lits)
    (subst (λ (n : ℕ). holds (n + 1) made.body.observed) many (subst (λ (n : LutNet). holds (was.body.source_count + 1) n.observed) (sym h.body) there))

-- settled as they are made, they are so as they are written
settled_there : LutLaws → (was : Network) (net : LutNet) (made : LutNetwork) → AreOf was net made → AreSettledIn was.body net → AreSettled (luts.network_of made)
settled_there laws was net made h are = record {
  depend = subst AllDepend (sym (luts_there laws.luts made net h.body)) are.depend;
  most = observed_there laws was net made h MostShown are.most;
  shown = observed_there laws was net made h AllShown are.shown;
}

-- no deeper than the greatest label, and no more of them than nodes need one
pub mapped_for_area : LutLaws → (sizes : LutSizes) (was : Network) (net : LutNet) (made : LutNetwork) → AreOf was net made → AreFewLutsOf sizes.most sizes.areas was.body net → IsMappedForArea sizes (written was) (written_luts made)
mapped_for_area laws sizes was net made h are =
    let k : ℕ = sizes.most in
    let rows : rows_of (graphs.network_of was) ≡ was.body.rows = (spelled laws.graphs was).same_rows in
    record {
      luts = in_luts laws k was net made h (record { inputs = are.inputs; count = are.count });
      depth = omega (arith, deep_luts laws was net made h, are.depth, same_greatest laws.graphs k was);
      cost = λ nodes there.
          omega (
            arith,
            ap (luts_cost sizes.areas) (luts_there laws.luts made net h.body),
            ap (λ (rs : List Row). nodes_cost k rs sizes.areas nodes) rows,
            are.cost nodes (needed_here laws.graphs k was nodes there),
          );
      fewest = λ alike nodes there. omega (arith, many_luts laws.luts made net h.body, are.fewer alike nodes (needed_here laws.graphs k was nodes there));
      settled = settled_there laws was net made h (record { depend = are.depend; most = are.most; shown = are.shown });
    }

-- others of the graph's function, under the same names
other_luts : (was : Network) (net few : LutNet) (made : LutNetwork) → AreOf was net made → HasFunctionOf was.body few → (other : LutNetwork) × AreOf was few other
other_luts was net few made h function =
    let named = names_fit (frame_in made.frame) was.body few function (subst (λ (f : Frame). IsNamed f was.body.source_count was.body.observed) (sym h.names) was.named) in
    let other : LutNetwork = record { frame = made.frame; body = few; named = named; net = named_net (frame_in made.frame) few named; few_names = made.few_names } in
    (other, record { names = h.names; body = refl; function = function })

-- so many levels deeper, by other names of both depths
deeper_by : (slack : Option ℕ) (a b c d : ℕ) → a ≡ c → b ≡ d → IfSome slack (λ levels. a ≤ b + levels) → IfSome slack (λ levels. c ≤ d + levels)
deeper_by slack a b c d is same deep = subst₂ (λ (m n : ℕ). IfSome slack (λ levels. m ≤ n + levels)) is same deep

-- no dearer than some that are few, whatever the depth
pub mapped_loosely : LutLaws → (sizes : LutSizes) (slack : Option ℕ) (was : Network) (net : LutNet) (made : LutNetwork) → AreOf was net made → AreFewestLuts sizes slack was.body net
    → IsMappedLoosely sizes slack (written was) (written_luts made)
mapped_loosely laws sizes slack was net made h are =
    let f = are.fewest in
    let others = other_luts was net f.few made h f.are_few.function in
    let other : LutNetwork = others.0 in
    let of_few : AreOf was f.few other = others.1 in
    record {
      luts = in_luts laws sizes.most was net made h are.luts;
      few = written_luts other;
      for_area = mapped_for_area laws sizes was f.few other of_few f.are_few;
      cost = omega (arith, ap (luts_cost sizes.areas) (luts_there laws.luts made net h.body), ap (luts_cost sizes.areas) (luts_there laws.luts other f.few of_few.body), f.cost);
      fewest = λ alike. omega (arith, many_luts laws.luts made net h.body, many_luts laws.luts other f.few of_few.body, f.alike alike);
      depth = deeper_by slack _ _ _ _ (sym (deep_luts laws was net made h)) (sym (deep_luts laws was f.few other of_few)) f.depth;
      settled = settled_there laws was net made h are.settled;
    }

-- no deeper than any covering
pub least_mapped_to : LutLaws → (k : ℕ) (was : Network) (net : LutNet) (made : LutNetwork) → AreOf was net made → AreLeastLuts k was.body net → IsLeastMappedTo k (written was) (written_luts made)
least_mapped_to laws k was net made h are =
    let s = spelled laws.graphs was in
    let old : Netlist = graphs.network_of was in
    let deep : ℕ = depth_over was.body net in
    record {
      luts = in_luts laws k was net made h are.luts;
      least = subst (λ (d : ℕ). IsLeastDepth k (length (sources old.frame)) (rows_of old) (observed_of old) d) (sym (deep_luts laws was net made h))
          (subst (λ (n : ℕ). IsLeastDepth k n (rows_of old) (observed_of old) deep) was.named.sources_are
          (subst (λ (ls : List Lit). IsLeastDepth k was.body.source_count (rows_of old) ls deep) (sym s.same_lits)
          (subst (λ (rs : List Row). IsLeastDepth k was.body.source_count rs was.body.observed deep) (sym s.same_rows) are.least)));
      settled = settled_there laws was net made h are.settled;
    }

-- by other names of the most inputs and of the areas
pub few_by : (k : ℕ) (areas : List ℕ) (sizes : LutSizes) (graph : Graph) (net : LutNet) → k ≡ sizes.most → areas ≡ sizes.areas → AreFewLutsOf k areas graph net → AreFewLutsOf sizes.most sizes.areas graph net
few_by k areas sizes graph net e f are = subst₂ (λ (m : ℕ) (costs : List ℕ). AreFewLutsOf m costs graph net) e f are

pub fewest_by : (k : ℕ) (areas : List ℕ) (sizes : LutSizes) (slack : Option ℕ) (graph : Graph) (net : LutNet) → k ≡ sizes.most → areas ≡ sizes.areas → AreFewestLuts (record { most = k; areas = areas }) slack graph net
    → AreFewestLuts sizes slack graph net
fewest_by k areas sizes slack graph net e f are = subst₂ (λ (m : ℕ) (costs : List ℕ). AreFewestLuts (record { most = m; areas = costs }) slack graph net) e f are

-- by another name of the number of inputs
pub least_by : (j k : ℕ) (old new : Written) → j ≡ k → IsLeastMappedTo j old new → IsLeastMappedTo k old new
least_by j k old new is made = subst (λ (n : ℕ). IsLeastMappedTo n old new) is made

-- what holds of all LUTs of a graph under its names holds of those that were made
pub of_made : (was : Network) (net : LutNet) (made : Result LutNetwork AllocError) (holds : LutNetwork → Type 0) → IfOk made (λ n. frame_in n.frame ≡ frame_in was.frame) → IfOk made (λ n. n.body ≡ net) → HasFunctionOf was.body net
    → ((n : LutNetwork) → AreOf was net n → holds n) → IfOk made holds
of_made was net (Ok n) holds names body function each = each n (record { names = names; body = body; function = function })
of_made was net (Err error) holds names body function each = tt

-- LUTs that all cost the same
alike : (n : ℕ) → 2 ≤ n → n ≤ 8 → cost_of (luts_alike 8).areas n ≡ cost_of (luts_alike 8).areas 2
alike zero many few = absurd (omega (arith, many))
alike (suc zero) many few = absurd (omega (arith, many))
alike (suc (suc zero)) many few = refl
alike (suc (suc (suc zero))) many few = refl
alike (suc (suc (suc (suc zero)))) many few = refl
alike (suc (suc (suc (suc (suc zero))))) many few = refl
alike (suc (suc (suc (suc (suc (suc zero)))))) many few = refl
alike (suc (suc (suc (suc (suc (suc (suc zero))))))) many few = refl
alike (suc (suc (suc (suc (suc (suc (suc (suc zero)))))))) many few = refl
alike (suc (suc (suc (suc (suc (suc (suc (suc (suc n))))))))) many few = absurd (omega (arith, few))

all_alike : (inputs : ℕ) → inputs ≤ 8 → CostAlike inputs (luts_alike inputs).areas
all_alike inputs most n many few = alike n many (omega (arith, most, few))

-- few LUTs are no more than those of plain mapping, and no deeper
pub area_is_no_worse : AreaIsNoWorse
area_is_no_worse = record {
  named = all_alike;
  depth = λ sizes graph plain few is are. omega (arith, are.depth, is.depth);
  count = λ sizes graph plain few alike is are. omega (arith, are.fewest alike is.nodes is.needed, is.count);
}
