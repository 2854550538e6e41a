use Rattle.std.proofs.Common.{◌≡◌, drop}
use Rattle.syn_gain.specs.Leaves.{are_below}
use Rattle.syn_gain.proofs.candidates.are_below.Given as goal

abbrev pub invariant-loop-node : goal.invariant-loop-node
invariant-loop-node l = are_below l.high (drop l.node-index l.nodes) ≡ are_below l.high l.nodes
