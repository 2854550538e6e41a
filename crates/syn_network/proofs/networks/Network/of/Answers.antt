use Rattle.syn_netlist.specs.Frames.{frame_in}
use Rattle.syn_network.proofs.Naming.{named_graph}
use Rattle.syn_network.proofs.networks.Network.of.Goals as goal

pub invariant_of-result : goal.invariant_of-result
invariant_of-result c = record {
  named = c.requires.named;
  graph = named_graph (frame_in c.args.frame) c.args.body c.requires.named;
  few_names = c.requires.names;
}
