use Rattle.syn_proposals.proofs.Gathered.{first_with_next}
use Rattle.syn_proposals.proofs.remaining.first_nodes.Goals as goal

pub loop-node-preserved : goal.loop-node-preserved
loop-node-preserved c = first_with_next c.loop-node.node c.loop-node.nodes.items c.push.new.self.items c.in_ok-push.ensures.items c.loop-node.invariant
