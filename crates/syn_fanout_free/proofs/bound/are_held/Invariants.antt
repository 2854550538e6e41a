use Rattle.std.proofs.Common.{ℕ, ◌<◌, get_or}
use Rattle.syn_rows.specs.Nodes.{has_node}
use Rattle.syn_fanout_free.specs.Bounding.{IsHeld}
use Rattle.syn_fanout_free.proofs.bound.are_held.Given as goal

abbrev pub invariant-loop-node : goal.invariant-loop-node
invariant-loop-node l = (k : ℕ) → k < l.node-index → IsHeld l.was l.n (has_node l.used) (get_or l.spared k 0)
