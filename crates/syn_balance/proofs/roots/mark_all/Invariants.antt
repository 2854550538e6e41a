use Rattle.syn_balance.specs.Roots.{AreRead}
use Rattle.syn_balance.proofs.roots.mark_all.Given as goal

abbrev pub invariant-loop-row : goal.invariant-loop-row
invariant-loop-row l = AreRead l.rows l.row-index l.seen l.marks
