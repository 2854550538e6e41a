-- Nets of few LUTs whatever their depth: no dearer than a net that mapping for few LUTs makes.
use Rattle.std.specs.Prelude.{◌≡◌, ℕ, ◌+◌, ◌≤◌, true, List, length, Option, IfSome}
use Rattle.syn_graph.specs.declared.Graph.{Graph}
use Rattle.syn_lutnet.specs.LutData.{net_depth, none_exceeds}
use Rattle.syn_lutnet.specs.declared.nets.LutNet.{LutNet}
use Rattle.syn_lutnet.specs.Data.{luts_data}
use Rattle.syn_lutnet.specs.Nets.{HasFunctionOf}
use Rattle.syn_area.specs.Areas.{CostAlike, luts_cost}
use Rattle.syn_area.specs.Plain.{AreLutsOf, NoDearerThanPlain, NoDeeperThanPlain, NoMoreThanPlain}
use Rattle.syn_absorb.specs.Flips.{AllShown, MostShown}
use Rattle.syn_absorb.specs.Needed.{AllDepend}

-- LUTs of a graph as they are written: each depends on all that it reads, none is observed by more literals complemented than plain, and none only complemented.
pub record AreWrittenLutsOf (k : ℕ) (graph : Graph) (net : LutNet) : Type 0 where
  pub luts : AreLutsOf k graph net
  pub depend : AllDepend (luts_data net.luts)
  pub most : MostShown (graph.source_count + 1) net.observed
  pub shown : AllShown (graph.source_count + 1) net.observed

-- What mapping for few LUTs makes of a graph, all that is said of it: such LUTs, no deeper than plain mapping makes, that cost no more than LUTs of the nodes that need one over the chosen cuts; where LUTs all cost the same there are no more of them.
pub record AreFewLutsOf (k : ℕ) (areas : List ℕ) (graph : Graph) (net : LutNet) : Type 0 where
  pub function : HasFunctionOf graph net
  pub inputs : none_exceeds k (luts_data net.luts) ≡ true
  pub count : length net.luts + (graph.source_count + 1) ≤ length graph.rows
  pub depth : NoDeeperThanPlain k graph net
  pub cost : NoDearerThanPlain k areas graph net
  pub fewer : CostAlike k areas → NoMoreThanPlain k graph net
  pub depend : AllDepend (luts_data net.luts)
  pub most : MostShown (graph.source_count + 1) net.observed
  pub shown : AllShown (graph.source_count + 1) net.observed

-- LUTs that cost no more than those of a net that mapping for few LUTs makes of the graph, and are no more of them where both cost the same or where LUTs all do; they lie at most as many levels deeper as are allowed, where that is bounded.
pub record AreFewestLutsOf (k : ℕ) (areas : List ℕ) (slack : Option ℕ) (graph : Graph) (net : LutNet) : Type 0 where
  pub few : LutNet
  pub are_few : AreFewLutsOf k areas graph few
  pub cost : luts_cost areas (luts_data net.luts) ≤ luts_cost areas (luts_data few.luts)
  pub fewer : luts_cost areas (luts_data net.luts) ≡ luts_cost areas (luts_data few.luts) → length net.luts ≤ length few.luts
  pub alike : CostAlike k areas → length net.luts ≤ length few.luts
  pub depth : IfSome slack (λ levels. net_depth graph.source_count (luts_data net.luts) ≤ net_depth graph.source_count (luts_data few.luts) + levels)

-- No deeper than a net and so many levels more, where these are named.
abbrev pub IsRoom : Option ℕ → LutNet → ℕ → Type 0
IsRoom slack few room = IfSome slack (λ levels. room ≤ net_depth few.source_count (luts_data few.luts) + levels)
