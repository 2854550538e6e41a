-- The netlist that a network of LUTs is written as.
use Rattle.syn_netlist.specs.Frames.{frame_in}
use Rattle.syn_netlist.specs.Lists.{Netlist}
use Rattle.syn_lutnet.specs.Data.{luts_data}
use Rattle.syn_network.specs.LutSpelling.{lut_network}
use Rattle.syn_network.specs.declared.lut_networks.LutNetwork.{LutNetwork}

-- a table for each LUT, then one for each observed signal that is no source
abbrev pub network_of : LutNetwork → Netlist
network_of n = lut_network (frame_in n.frame) (luts_data n.body.luts) n.body.observed
