use Rattle.std.proofs.lemmas.Result.{IfOk-weaker}
use Rattle.syn_sresub.proofs.Covered.{third}
use Rattle.syn_sresub.proofs.questions.join.Goals as goal

pub returns-clause-joined : goal.returns-clause-joined
returns-clause-joined c = IfOk-weaker c.refute.result _ _ (λ a p e v h s t. third v c.args.m c.args.x c.args.y c.not.result c.not.ensures (p e v h) s t) c.refute.ensures.refuted
