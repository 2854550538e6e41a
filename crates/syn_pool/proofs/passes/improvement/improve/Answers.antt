use Rattle.syn_proposals.proofs.Kept.{all_keep}
use Rattle.syn_pool.proofs.passes.improvement.improve.Goals as goal

pub kept_closed-requires-clause-keep : goal.kept_closed-requires-clause-keep
kept_closed-requires-clause-keep g c = λ κs within. all_keep (g.P.Proposer.proposals c.args.proposer)
