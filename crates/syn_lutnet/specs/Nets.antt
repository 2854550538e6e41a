-- What a mapping makes of a graph.
use Rattle.std.specs.Prelude.{◌≡◌, Bool, List, length}
use Rattle.syn_rows.specs.Values.{rows_function}
use Rattle.syn_graph.specs.Graphs.{SourcesStay}
use Rattle.syn_graph.specs.declared.Graph.{Graph}
use Rattle.syn_lutnet.specs.LutData.{luts_function}
use Rattle.syn_lutnet.specs.Data.{luts_data}
use Rattle.syn_lutnet.specs.declared.nets.LutNet.{LutNet}

-- The LUT net has as many sources and observed literals as the graph, of the same values, and a literal of a source stays.
pub record HasFunctionOf (graph : Graph) (net : LutNet) : Type 0 where
  pub sources : net.source_count ≡ graph.source_count
  pub count : length net.observed ≡ length graph.observed
  pub stay : SourcesStay graph.source_count graph.observed net.observed
  pub values : (bits : List Bool) → length bits ≡ graph.source_count → luts_function (luts_data net.luts) net.observed bits ≡ rows_function graph.rows graph.observed bits
