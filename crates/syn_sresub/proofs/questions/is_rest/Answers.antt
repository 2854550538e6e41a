use Rattle.std.proofs.lemmas.Result.{IfOk-weaker}
use Rattle.syn_sresub.proofs.questions.is_rest.Goals as goal

pub returns-in-Refuted-clause-implied : goal.returns-in-Refuted-clause-implied
returns-in-Refuted-clause-implied c = IfOk-weaker c.join.result _ _ (λ a p e v h t. c.in_ok-implies.ensures.implied c.in-Refuted.is v h t) c.join.ensures.joined

pub returns-in-Refuted-clause-joined : goal.returns-in-Refuted-clause-joined
returns-in-Refuted-clause-joined c = IfOk-weaker c.join.result _ _ (λ a p e v h s t. p e v (c.implies.ensures.kept v h) s t) c.join.ensures.joined
