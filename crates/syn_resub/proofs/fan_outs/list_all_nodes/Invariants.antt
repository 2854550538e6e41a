use Rattle.std.proofs.Common.{◌≤◌, length}
use Rattle.syn_resub.specs.FanOuts.{AreListedFrom}
use Rattle.syn_resub.proofs.fan_outs.list_all_nodes.Given as goal

abbrev pub invariant-loop-node : goal.invariant-loop-node
invariant-loop-node l = record {
  within : l.node ≤ length l.rows;
  listed : AreListedFrom l.first l.next l.rows l.node;
}

abbrev pub decreases-loop-node : goal.decreases-loop-node
decreases-loop-node l = l.node
