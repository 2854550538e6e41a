-- The graph of a netlist.
use Rattle.std.specs.Prelude.{◌≤◌, length}
use Rattle.syn_netlist.specs.Lists.{Netlist}
use Rattle.syn_netlist.specs.Costs.{cost_of}
use Rattle.syn_netlist.specs.Meaning.{SameMeaning}
use Rattle.syn_netlist.specs.Order.{Ordered}
use Rattle.syn_network.specs.GraphShape.{GraphShape, and_tables}

-- What the network is to the netlist that it was made of: it means the same, reads only earlier signals, has the shape of a graph, and no more ANDs than the netlist costs.
pub record IsGraphOf (netlist m : Netlist) : Type 0 where
  pub same : SameMeaning netlist m
  pub ordered : Ordered m
  pub shape : GraphShape m
  pub fewer : length (and_tables m) ≤ cost_of netlist
