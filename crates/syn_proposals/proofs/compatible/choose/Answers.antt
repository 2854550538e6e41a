use Rattle.std.proofs.Common.{◌<◌, length, sym, subst}
use Rattle.syn_gain.proofs.Owning.{root_there}
use Rattle.syn_proposals.proofs.compatible.choose.Goals as goal

pub place-requires-clause-root : goal.place-requires-clause-root
place-requires-clause-root c =
    let graph = c.args.graph.now in
    subst (λ k. k < length graph.rows) (sym c.borrow.ensures.root) (root_there graph c.args.proposal.now.root c.requires.root)
