-- LUTs that are made node by node, and their literals, by the numbers of the nodes' signals.
use Rattle.std.specs.Prelude.{◌≡◌, ℕ, ◌+◌, ◌*◌, ◌%◌, ◌^◌, ◌<◌, nat_lt, true, List, map, length, slice_index_or}
use Rattle.std.specs.List.{list_all}
use Rattle.syn_rows.specs.declared.Lit.{Lit}
use Rattle.syn_rows.specs.declared.Row.{Row}
use Rattle.syn_rows.specs.Rows.{node_of}
use Rattle.syn_graph.specs.declared.Graph.{Graph}
use Rattle.syn_lutnet.specs.LutData.{Lut, greatest, lut_at, net_depth, rising}
use Rattle.syn_lutnet.specs.declared.nets.LutNet.{LutNet}
use Rattle.syn_lutnet.specs.Data.{luts_data}
use Rattle.syn_covering.specs.Cuts.{AreDepths}
use Rattle.syn_covering.specs.Mappings.{node_at, AreOnesOver, IsMapping}

-- the number of a node's signal
abbrev pub number_at : List ℕ → ℕ → ℕ
number_at numbers n = slice_index_or numbers n 0

-- the literal of a node as that of its signal
abbrev pub numbered_lit : List ℕ → Lit → Lit
numbered_lit numbers l = record { 0 = 2 * number_at numbers (node_of l) + l.0 % 2 }

-- The LUT of a node reads the signals of the leaves of its cut, and lists the minterms of its function over them.
pub record IsLutOf (cut : ℕ → List ℕ) (rows : List Row) (numbers : List ℕ) (node : ℕ) (l : Lut) : Type 0 where
  pub inputs : l.inputs ≡ map (number_at numbers) (cut node)
  pub ones : AreOnesOver rows (cut node) node l.ones
  pub rise : rising l.ones ≡ true
  pub small : list_all (λ m. nat_lt m (2 ^ length l.inputs)) l.ones ≡ true

-- one LUT for each of these nodes, in their order
pub record AreLutsOf (cut : ℕ → List ℕ) (rows : List Row) (numbers nodes : List ℕ) (luts : List Lut) : Type 0 where
  pub long : length luts ≡ length nodes
  pub each : (j : ℕ) → j < length nodes → IsLutOf cut rows numbers (node_at nodes j) (lut_at luts j)

-- the LUT net has the LUTs of a graph's cuts
unfoldable pub IsMappedBy : (ℕ → List ℕ) → Graph → LutNet → Type 0
IsMappedBy cut graph net = (nodes : List ℕ) × IsMapping cut graph.source_count graph.rows graph.observed nodes (luts_data net.luts) net.observed

-- where labels are the depths over the cuts, the net is as deep as the greatest label of an observed node
abbrev pub HasDepthOver : (ℕ → List ℕ) → Graph → LutNet → Type 0
HasDepthOver cut graph net =
    (label : ℕ → ℕ) → AreDepths graph.rows label cut → net_depth graph.source_count (luts_data net.luts) ≡ greatest label (map node_of graph.observed)
