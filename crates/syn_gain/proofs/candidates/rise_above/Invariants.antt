use Rattle.std.proofs.Common.{◌≡◌, drop}
use Rattle.syn_gain.specs.Leaves.{rise_above}
use Rattle.syn_gain.proofs.candidates.rise_above.Given as goal

abbrev pub invariant-loop-node : goal.invariant-loop-node
invariant-loop-node l = rise_above l.last (drop l.node-index l.nodes) ≡ rise_above l.low l.nodes
