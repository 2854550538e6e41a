use Rattle.std.proofs.Common.{◌+◌, ◌*◌, length}
use Rattle.syn_plan.proofs.factors.+build.Given as goal

abbrev pub decreases-build : goal.decreases-build
decreases-build l = 3 * length l.order.now

abbrev pub decreases-join : goal.decreases-join
decreases-join l = 3 * length l.rest.now + 2

abbrev pub decreases-build_cofactor : goal.decreases-build_cofactor
decreases-build_cofactor l = 3 * length l.rest.now + 1
