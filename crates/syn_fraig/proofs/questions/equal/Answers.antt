use Rattle.std.proofs.lemmas.Result.{IfOk-weaker}
use Rattle.syn_fraig.proofs.Asked.{one_value}
use Rattle.syn_fraig.proofs.questions.equal.Goals as goal

pub returns-in-Refuted-clause-same : goal.returns-in-Refuted-clause-same
returns-in-Refuted-clause-same c =
    IfOk-weaker c.refute-in-Refuted.result _ _
    (λ a p e v h. one_value v c.args.l c.args.m c.not-in-Refuted.result c.not.result c.not-in-Refuted.ensures c.not.ensures (c.in_ok-refute.ensures.refuted c.in-Refuted.is v h) (p e v (c.refute.ensures.kept v h)))
    c.refute-in-Refuted.ensures.refuted
