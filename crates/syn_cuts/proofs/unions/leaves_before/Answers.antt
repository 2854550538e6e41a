use Rattle.std.proofs.Common.{sym, ◌∙◌}
use Rattle.syn_cuts.proofs.Putting.{not_before_none}
use Rattle.syn_cuts.proofs.unions.leaves_before.Goals as goal

pub returns-then-i-right : goal.returns-then-i-right
returns-then-i-right c = sym (not_before_none c.args.left.now c.args.right.now c.loop-i.i c.if-i-right.true) ∙ c.loop-i.invariant
