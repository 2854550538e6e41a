use Rattle.std.proofs.Common.{rules, length}
use Rattle.syn_hashed.proofs.Bucketing.{sought_next}
use Rattle.syn_hashed.proofs.pairs.find_pair.Goals as goal

pub loop-node-smaller : goal.loop-node-smaller
loop-node-smaller c = (sought_next (length c.args.heads.now) c.args.rows.now c.args.heads.now c.args.next.now c.args.first c.args.second c.loop-node.node c.requires.index c.loop-node-test.true (search rules) c.loop-node.invariant).1

pub loop-node-preserved : goal.loop-node-preserved
loop-node-preserved c = (sought_next (length c.args.heads.now) c.args.rows.now c.args.heads.now c.args.next.now c.args.first c.args.second c.loop-node.node c.requires.index c.loop-node-test.true (search rules) c.loop-node.invariant).0
