use Rattle.std.proofs.Common.{sym, subst}
use Rattle.syn_hashed.specs.Pairs.{IsIndex}
use Rattle.syn_hashed.proofs.Bucketing.{longer_kept}
use Rattle.syn_hashed.proofs.pairs.lengthen.Goals as goal

pub returns-in_ok-push-clause-index : goal.returns-in_ok-push-clause-index
returns-in_ok-push-clause-index c = λ buckets rows heads x. subst (IsIndex buckets rows heads) (sym c.in_ok-push.ensures.items) (longer_kept buckets rows heads c.args.next.now.items 0 x)
