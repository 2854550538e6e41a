-- The graph of a LUT net.
use Rattle.std.specs.Prelude.{◌≤◌, length}
use Rattle.syn_netlist.specs.Lists.{Netlist}
use Rattle.syn_netlist.specs.Meaning.{SameMeaning}
use Rattle.syn_netlist.specs.Order.{Ordered}
use Rattle.syn_network.specs.LutShape.{gates_of}
use Rattle.syn_network.specs.GraphShape.{GraphShape, and_tables}

-- What the network is to the netlist of the LUT net that it was made of: it means the same, reads only earlier signals, has the shape of a graph, and no more ANDs than the gates of factoring the LUTs.
pub record IsGraphOfLuts (netlist m : Netlist) : Type 0 where
  pub same : SameMeaning netlist m
  pub ordered : Ordered m
  pub shape : GraphShape m
  pub fewer : length (and_tables m) ≤ gates_of netlist
