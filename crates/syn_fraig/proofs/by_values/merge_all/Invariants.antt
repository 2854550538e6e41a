use Rattle.syn_fraig.specs.Merging.{IsMerged}
use Rattle.syn_fraig.proofs.by_values.merge_all.Given as goal

abbrev pub invariant-loop-node-2 : goal.invariant-loop-node-2
invariant-loop-node-2 l = IsMerged l.count l.rows l.now
