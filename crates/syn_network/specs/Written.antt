-- The netlist that a network is written as.
use Rattle.syn_netlist.specs.Frames.{frame_in}
use Rattle.syn_netlist.specs.Lists.{Netlist}
use Rattle.syn_network.specs.Spelling.{network}
use Rattle.syn_network.specs.declared.networks.Network.{Network}

-- a table for each AND, then one for each observed signal that is no source
abbrev pub network_of : Network → Netlist
network_of n = network (frame_in n.frame) n.body.rows n.body.observed
