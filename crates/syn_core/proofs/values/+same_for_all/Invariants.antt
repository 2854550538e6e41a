use Rattle.std.proofs.Common.{length}
use Rattle.syn_core.proofs.values.+same_for_all.Given as goal

abbrev pub decreases-same_for_all : goal.decreases-same_for_all
decreases-same_for_all l = length l.rest.now
