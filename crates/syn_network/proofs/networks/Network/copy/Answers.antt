use Rattle.std.proofs.Common.{sym, subst}
use Rattle.syn_netlist.specs.Lists.{Frame}
use Rattle.syn_graph.specs.declared.Graph.{Graph}
use Rattle.syn_netlist.specs.Frames.{frame_in}
use Rattle.syn_network.specs.Networks.{IsNamed}
use Rattle.syn_network.proofs.networks.Network.copy.Goals as goal

pub of-requires-clause-named : goal.of-requires-clause-named
of-requires-clause-named c =
    let body : Graph = c.in_ok-body.body in
    subst (λ (f : Frame). IsNamed f body.source_count body.observed) (sym c.in_ok-frame.ensures.same)
    (subst (λ (b : Graph). IsNamed (frame_in c.args.self.now.frame) b.source_count b.observed) (sym c.in_ok-body.ensures) c.args.self.now.named)
