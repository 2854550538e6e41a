use Rattle.std.proofs.Common.{sym, ◌∙◌, arith}
use Rattle.syn_gain.proofs.Fresh.{none_new}
use Rattle.syn_gain.proofs.placed.literal_new.Goals as goal

pub returns-clause-literal : goal.returns-clause-literal
returns-clause-literal c =
    sym (none_new c.args.first c.args.extra.now c.loop-i.i c.args.x c.args.y (λ j lt. c.requires.none j (omega (arith, lt, c.loop-i-test.false))))
    ∙ c.loop-i.invariant.rest
