use Rattle.std.proofs.Common.{inr}
use Rattle.std.proofs.lemmas.Bool.{both_ways, not-true}
use Rattle.syn_absorb.proofs.narrow.is_idle.Goals as goal

pub returns-clause-idle : goal.returns-clause-idle
returns-clause-idle c e = inr (λ d. both_ways c.depends.result (not-true c.depends.result e) (c.depends.ensures.1 d))
