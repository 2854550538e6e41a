use Rattle.syn_rows.specs.Values.{lit_value}
use Rattle.syn_remaking.proofs.Results.{both_ok}
use Rattle.syn_sresub.proofs.Covered.{and_by_parts}
use Rattle.syn_sresub.proofs.questions.is_and.Goals as goal

pub returns-in-Refuted-clause-same : goal.returns-in-Refuted-clause-same
returns-in-Refuted-clause-same c =
    both_ok c.is_rest.result
    (λ a p q e v h.
    and_by_parts (lit_value v c.args.m) (lit_value v c.args.x) (lit_value v c.args.y)
    (c.in_ok-implies.ensures.implied c.in-Refuted.is v h) (p e v (c.implies.ensures.kept v h)) (q e v (c.implies.ensures.kept v h)))
    c.is_rest.ensures.implied c.is_rest.ensures.joined
