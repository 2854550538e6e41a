use Rattle.syn_netlist.specs.Frames.{frame_in}
use Rattle.syn_network.proofs.LutNaming.{names_fit}
use Rattle.syn_network.proofs.networks.Network.mapped.Goals as goal

pub of-requires-clause-named : goal.of-requires-clause-named
of-requires-clause-named c = names_fit (frame_in c.args.self.frame) c.args.self.body c.args.net c.requires c.args.self.named
