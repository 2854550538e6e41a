use Rattle.std.proofs.Common.{ap, ◌∙◌}
use Rattle.syn_truth.specs.Truth.{value_of}
use Rattle.syn_truth.proofs.Minterms.{swap_turned}
use Rattle.syn_truth.proofs.Truth.swap.Goals as goal

pub returns-then-j-i-clause-values : goal.returns-then-j-i-clause-values
returns-then-j-i-clause-values c = λ xs h.
    c.swap_rising-then-j-i.ensures.values xs h
    ∙ ap (value_of c.args.self) (swap_turned xs c.args.j c.args.i c.if-j-i.true)
