use Rattle.std.proofs.Common.{length}
use Rattle.syn_hashed.proofs.Bucketing.{IsSought}
use Rattle.syn_hashed.proofs.pairs.find_pair.Given as goal

abbrev pub invariant-loop-node : goal.invariant-loop-node
invariant-loop-node l = IsSought (length l.heads) l.rows l.first l.second l.node

abbrev pub decreases-loop-node : goal.decreases-loop-node
decreases-loop-node l = l.node
