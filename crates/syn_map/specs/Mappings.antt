-- LUT nets that are made of chosen cuts.
use Rattle.std.specs.Prelude.{ℕ, ◌≤◌, List}
use Rattle.syn_rows.specs.declared.Row.{Row}
use Rattle.syn_hashed.specs.Hashed.{IsHashed}
use Rattle.syn_graph.specs.declared.Graph.{Graph}
use Rattle.syn_lutnet.specs.declared.nets.LutNet.{LutNet}
use Rattle.syn_covering.specs.Cuts.{AreDepths, AreLutCuts}
use Rattle.syn_covering.specs.Making.{IsMappedBy}
use Rattle.syn_map.specs.Labels.{chosen, label_of}

-- the LUT net has the LUTs of the graph's chosen cuts
abbrev pub IsMapped : ℕ → Graph → LutNet → Type 0
IsMapped k graph net = IsMappedBy (chosen k graph.rows) graph net

-- In hashed rows the chosen cut of each AND is one of 2 to k leaves that a LUT may read,
abbrev pub ChosenAreLutCuts : Type 0
ChosenAreLutCuts = (k count : ℕ) (rows : List Row) → 2 ≤ k → IsHashed count rows → AreLutCuts k rows (chosen k rows)

-- and the labels are the depths over the chosen cuts.
abbrev pub LabelsAreDepths : Type 0
LabelsAreDepths = (k count : ℕ) (rows : List Row) → IsHashed count rows → AreDepths rows (label_of k rows) (chosen k rows)
