use Rattle.std.proofs.Common.{arith}
use Rattle.syn_apply.proofs.Standing.{OnOk-of, grown_extends}
use Rattle.syn_apply.proofs.batch.and.Goals as goal

pub returns-then-len-lt-NODE_LIMIT-clause-grown : goal.returns-then-len-lt-NODE_LIMIT-clause-grown
returns-then-len-lt-NODE_LIMIT-clause-grown c =
    OnOk-of c.and.result (grown_extends _ _ c.and.ensures.grows c.and.ensures.kept (omega (arith, c.and.ensures.few, c.if-len-lt-NODE_LIMIT.true)))
