use Rattle.std.proofs.Common.{sym, subst}
use Rattle.syn_netlist.specs.Frames.{frame_in}
use Rattle.syn_netlist.specs.Lists.{Frame}
use Rattle.syn_network.specs.Networks.{IsNamed}
use Rattle.syn_network.proofs.LutNaming.{names_fit}
use Rattle.syn_network.proofs.networks.Network.mapped_copy.Goals as goal

pub of-requires-clause-named : goal.of-requires-clause-named
of-requires-clause-named c =
    let named = names_fit (frame_in c.args.self.now.frame) c.args.self.now.body c.args.net c.requires c.args.self.now.named in
    subst (λ (f : Frame). IsNamed f c.args.net.source_count c.args.net.observed) (sym c.in_ok-frame.ensures.same) named
