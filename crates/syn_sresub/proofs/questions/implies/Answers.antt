use Rattle.std.proofs.lemmas.Result.{IfOk-weaker}
use Rattle.syn_sresub.proofs.Covered.{implied}
use Rattle.syn_sresub.proofs.questions.implies.Goals as goal

pub returns-clause-implied : goal.returns-clause-implied
returns-clause-implied c = IfOk-weaker c.refute.result _ _ (λ a p e v h t. implied v c.args.m c.args.x c.not.result c.not.ensures (p e v h) t) c.refute.ensures.refuted
