-- What follows where a graph, or a LUT net, is put in place of a graph under the same names.
use Rattle.std.specs.Prelude.{◌≡◌, true}
use Rattle.syn_graph.specs.declared.Graph.{Graph}
use Rattle.syn_graph.specs.Relations.{SameFunction}
use Rattle.syn_netlist.specs.Lists.{Frame, sources}
use Rattle.syn_netlist.specs.Meaning.{SameMeaning}
use Rattle.syn_netlist.specs.Words.{distinct}
use Rattle.syn_lutnet.specs.declared.nets.LutNet.{LutNet}
use Rattle.syn_lutnet.specs.Data.{luts_data}
use Rattle.syn_lutnet.specs.Nets.{HasFunctionOf}
use Rattle.syn_network.specs.Spelling.{network}
use Rattle.syn_network.specs.LutSpelling.{lut_network}
use Rattle.syn_network.specs.Networks.{IsNamed}

-- The names fit what is put in place.
abbrev pub NamesStay : Type 0
NamesStay = (frame : Frame) (was now : Graph) → SameFunction was now → IsNamed frame was.source_count was.observed → IsNamed frame now.source_count now.observed

-- The netlist means the same.
abbrev pub SameFunctionKeepsMeaning : Type 0
SameFunctionKeepsMeaning = (frame : Frame) (was now : Graph) → distinct frame.clocks ≡ true → distinct (sources frame) ≡ true → IsNamed frame was.source_count was.observed → SameFunction was now
    → SameMeaning (network frame was.rows was.observed) (network frame now.rows now.observed)

-- The netlist of a LUT net of a graph's function means the same as the graph's.
abbrev pub MappedKeepsMeaning : Type 0
MappedKeepsMeaning = (frame : Frame) (graph : Graph) (net : LutNet) → distinct frame.clocks ≡ true → distinct (sources frame) ≡ true → IsNamed frame graph.source_count graph.observed → HasFunctionOf graph net
    → SameMeaning (network frame graph.rows graph.observed) (lut_network frame (luts_data net.luts) net.observed)
