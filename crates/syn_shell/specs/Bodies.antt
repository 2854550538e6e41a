-- What passes and mappings make of a graph without names, as they say it.
use Rattle.std.specs.Prelude.{◌≡◌, ℕ, ◌+◌, ◌≤◌, Bool, true, List, length, map, Option, IfSome, IfNone}
use Rattle.syn_rows.specs.declared.Row.{Row}
use Rattle.syn_rows.specs.Rows.{node_of}
use Rattle.syn_graph.specs.declared.Graph.{Graph}
use Rattle.syn_graph.specs.Relations.{Follows}
use Rattle.syn_gain.specs.Replacements.{Replacement}
use Rattle.syn_levels.specs.Levels.{IsNoDeeper}
use Rattle.syn_proposals.specs.Closing.{Closed}
use Rattle.syn_pool.specs.Improving.{IsImproved, allowed}
use Rattle.syn_lutnet.specs.LutData.{greatest, net_depth, none_exceeds}
use Rattle.syn_lutnet.specs.Data.{luts_data}
use Rattle.syn_lutnet.specs.declared.nets.LutNet.{LutNet}
use Rattle.syn_absorb.specs.Flips.{AllShown, MostShown}
use Rattle.syn_absorb.specs.Needed.{AllDepend}
use Rattle.syn_map.specs.Labels.{label_of}
use Rattle.syn_map.specs.Mappings.{IsMapped}
use Rattle.syn_words.specs.declared.inputs.LutSizes.{LutSizes}
use Rattle.syn_flow.specs.Flows.{HasLeastDepth}
use Rattle.syn_settled.specs.Fewest.{AreFewestLutsOf}

-- A pass made a graph of this one; or it made none, and no proposal of those that it goes by saves.
pub record IsLeftBy (proposals : List Row → ℕ → List Replacement) (levels : Bool) (graph : Graph) (made : Option Graph) : Type 0 where
  pub some : IfSome made (IsImproved proposals levels graph)
  pub none : IfNone made (Closed graph.rows graph.observed (allowed levels proposals graph.rows))

-- Merging or resubstitution by refutation made a graph of this one: it has its function and no more ANDs, and where levels are kept no observed literal lies higher.
pub record AreMerged (keeps : Bool) (graph made : Graph) : Type 0 where
  pub follows : Follows graph 0 made
  pub levels : keeps ≡ true → IsNoDeeper graph made

-- LUTs of at most k inputs, no more of them than the graph has ANDs
pub record AreLuts (k : ℕ) (graph : Graph) (net : LutNet) : Type 0 where
  pub inputs : none_exceeds k (luts_data net.luts) ≡ true
  pub count : length net.luts + (graph.source_count + 1) ≤ length graph.rows

-- the greatest label of an observed node
abbrev pub greatest_label : ℕ → Graph → ℕ
greatest_label k graph = greatest (label_of k graph.rows) (map node_of graph.observed)

-- how deep LUTs of a graph are
abbrev pub depth_over : Graph → LutNet → ℕ
depth_over graph net = net_depth graph.source_count (luts_data net.luts)

-- Those of the chosen cuts, as deep as the greatest label of an observed node.
pub record ArePlainLuts (k : ℕ) (graph : Graph) (net : LutNet) : Type 0 where
  pub luts : AreLuts k graph net
  pub mapping : IsMapped k graph net
  pub depth : depth_over graph net ≡ greatest_label k graph

-- Each LUT depends on each signal that it reads, no more literals observe one complemented than plain, and none is observed only complemented.
pub record AreSettledIn (graph : Graph) (net : LutNet) : Type 0 where
  pub depend : AllDepend (luts_data net.luts)
  pub most : MostShown (graph.source_count + 1) net.observed
  pub shown : AllShown (graph.source_count + 1) net.observed

-- Those of mapping for few LUTs whatever the depth, or with at most so many levels more where a number is given.
pub record AreFewestLuts (sizes : LutSizes) (slack : Option ℕ) (graph : Graph) (net : LutNet) : Type 0 where
  pub luts : AreLuts sizes.most graph net
  pub fewest : AreFewestLutsOf sizes.most sizes.areas slack graph net
  pub settled : AreSettledIn graph net

-- No deeper than any covering.
pub record AreLeastLuts (k : ℕ) (graph : Graph) (net : LutNet) : Type 0 where
  pub luts : AreLuts k graph net
  pub least : HasLeastDepth k graph net
  pub settled : AreSettledIn graph net
