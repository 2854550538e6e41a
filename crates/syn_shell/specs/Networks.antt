-- The network of a session, as it is written: the netlist that a write of it puts, and whether it is one of LUTs.
use Rattle.std.specs.Prelude.{ℕ, ◌≤◌, ◌<◌, ◌^◌, Bool, true, false, Option, None, Some, option_map, length}
use Rattle.syn_netlist.specs.Lists.{Netlist, sources}
use Rattle.syn_reader.specs.Limits.{most_sources}
use Rattle.syn_network.specs.GraphShape.{and_tables}
use Rattle.syn_build.specs.BuildFaults.{most_gates}
use Rattle.syn_network.specs.Written as graphs
use Rattle.syn_network.specs.WrittenLuts as luts
use Rattle.syn_network.specs.LutShape.{gates_of}
use Rattle.syn_network.specs.declared.networks.Network.{Network}
use Rattle.syn_network.specs.declared.lut_networks.LutNetwork.{LutNetwork}
use Rattle.syn_shell.specs.declared.network.HeldNetwork.{HeldNetwork}
use Rattle.syn_shell.specs.declared.network.HeldNetwork.TheVariants.{Graph, Luts}

-- A network as it is written. A net of LUTs with two inputs each is written as a graph may be, so the netlist alone doesn't tell which of both it is: the mark does.
pub record Written : Type 0 where
  pub netlist : Netlist
  pub mapped : Bool

-- A graph, by the netlist that it is written as.
abbrev pub graph_network : Netlist → Written
graph_network netlist = record { netlist = netlist; mapped = false }

-- A net of LUTs, likewise.
abbrev pub mapped_network : Netlist → Written
mapped_network netlist = record { netlist = netlist; mapped = true }

-- What a session holds, as a network.
abbrev pub network_of : HeldNetwork → Written
network_of (Graph network) = graph_network (graphs.network_of network)
network_of (Luts network) = mapped_network (luts.network_of network)

-- What was made of a graph: it under its names, or LUTs.
abbrev pub made_in : Network → Option LutNetwork → Written
made_in network None = graph_network (graphs.network_of network)
made_in network (Some made) = mapped_network (luts.network_of made)

-- A session's network: none, or what it holds.
abbrev pub network_in : Option HeldNetwork → Option Written
network_in held = option_map network_of held

-- The gates of a netlist by the mark: none of a graph, those of factoring its LUTs of a net of them.
abbrev pub gates_by : Bool → Netlist → ℕ
gates_by false netlist = 0
gates_by true netlist = gates_of netlist

-- The gates that are made where a network is made a graph: none where it is one.
abbrev pub gates_in : Written → ℕ
gates_in network = gates_by network.mapped network.netlist

-- The ANDs of a netlist by the mark: those of a graph; a net of LUTs has none.
abbrev pub ands_by : Bool → Netlist → ℕ
ands_by false netlist = length (and_tables netlist)
ands_by true netlist = 0

-- A network is small enough to be made a graph and to be written as numbers: it has no more sources than a netlist that is read may have, fewer than 2 ^ 28 outputs, and, as a graph, no more ANDs than a net of LUTs may give.
pub record IsSmall (network : Written) : Type 0 where
  pub sources : length (sources network.netlist.frame) ≤ most_sources
  pub outputs : length network.netlist.frame.outputs < 2 ^ 28
  pub ands : ands_by network.mapped network.netlist ≤ most_gates
