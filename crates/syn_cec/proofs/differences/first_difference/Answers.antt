use Rattle.std.proofs.Common.{false, sym, arith}
use Rattle.std.proofs.lemmas.List.{ext_get_or}
use Rattle.syn_cec.proofs.differences.first_difference.Goals as goal

pub returns-clause-none : goal.returns-clause-none
returns-clause-none c = ext_get_or false c.args.xs.now c.args.ys.now (sym c.requires) (λ j lt. c.loop-i.invariant j (omega (arith, lt)))
