use Rattle.std.proofs.Common.{◌≡◌, ◌++◌, drop}
use Rattle.syn_seq.specs.Code.{merged_from, merged_places, up_to}
use Rattle.syn_seq.proofs.checks.merged_places.Given as goal

abbrev pub invariant-loop-node : goal.invariant-loop-node
invariant-loop-node l = l.places.items ≡ up_to l.node

abbrev pub invariant-loop-j : goal.invariant-loop-j
invariant-loop-j l = l.places.items ++ merged_from l.first l.j (drop l.j l.fates) ≡ merged_places l.first l.fates
