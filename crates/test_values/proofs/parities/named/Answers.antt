use Rattle.std.proofs.Common.{ℕ, sym, ap, subst}
use Rattle.syn_netlist.specs.Frames.{frame_in}
use Rattle.syn_network.specs.Networks.{IsNamed}
use Rattle.test_values.proofs.Nets.{names_fit}
use Rattle.test_values.proofs.parities.named.Goals as goal

pub of-requires-clause-named : goal.of-requires-clause-named
of-requires-clause-named c =
    let network = c.args.network in
    subst (λ (k : ℕ). IsNamed (frame_in network.frame) k c.args.net.observed) (sym c.requires.sources)
    (names_fit (frame_in network.frame) network.body.observed c.args.net.observed (subst (λ (k : ℕ). IsNamed (frame_in network.frame) k network.body.observed) c.requires.six network.named) c.requires.constant c.requires.count)
