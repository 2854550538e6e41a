use Rattle.std.proofs.Common.{◌≡◌, length}
use Rattle.syn_fraig.proofs.candidates.candidates.Given as goal

abbrev pub invariant-loop-node : goal.invariant-loop-node
invariant-loop-node l = length l.alike.items ≡ l.node
