use Rattle.syn_netlist.specs.Frames.{frame_in}
use Rattle.syn_network.proofs.LutNaming.{named_net}
use Rattle.syn_network.proofs.lut_networks.LutNetwork.of.Goals as goal

pub invariant_of-result : goal.invariant_of-result
invariant_of-result c = record {
  named = c.requires.named;
  net = named_net (frame_in c.args.frame) c.args.body c.requires.named;
  few_names = c.requires.names;
}
