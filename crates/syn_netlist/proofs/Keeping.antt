-- What the types of netlists by numbers keep, said of the netlist in words.
use Rattle.syn_netlist.specs.declared.netlists.Netlist.{Netlist}
use Rattle.syn_netlist.specs.Order.{DefinedOnce}
use Rattle.syn_netlist.specs.Views.{netlist_in}

pub defined_once : (n : Netlist) → DefinedOnce (netlist_in n)
defined_once n = record { clocks = n.frame.clocks_once; all = n.once }
