use Rattle.std.proofs.Common.{◌+◌, ◌*◌}
use Rattle.syn_weighing.proofs.all_new.+made.Given as goal

abbrev pub decreases-joins_made : goal.decreases-joins_made
decreases-joins_made l = 2 * l.levels + 1

abbrev pub decreases-may_be_made : goal.decreases-may_be_made
decreases-may_be_made l = 2 * l.levels
