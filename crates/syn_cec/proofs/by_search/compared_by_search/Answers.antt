use Rattle.std.proofs.Common.{◌∙◌}
use Rattle.syn_cec.proofs.by_search.compared_by_search.Goals as goal

pub compared_pairs-requires-clause-values : goal.compared_pairs-requires-clause-values
compared_pairs-requires-clause-values c = λ bits. c.in_ok-swept.ensures.follows.same.values bits ∙ c.in_ok-both.ensures.values bits
