use Rattle.std.proofs.Common.{◌≡◌, length}
use Rattle.syn_weighing.proofs.all_new.firsts_of.Given as goal

abbrev pub invariant-loop-i : goal.invariant-loop-i
invariant-loop-i l = length l.firsts.items ≡ l.i
