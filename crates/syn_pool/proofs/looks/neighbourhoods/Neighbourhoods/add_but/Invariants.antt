use Rattle.std.proofs.Common.{length, ◌-◌}
use Rattle.syn_pool.proofs.looks.neighbourhoods.Neighbourhoods.add_but.Given as goal

abbrev pub decreases-loop-next : goal.decreases-loop-next
decreases-loop-next l = length l.found - l.next
