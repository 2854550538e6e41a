use Rattle.std.proofs.Common.{◌≡◌, ◌++◌, ◌∷◌, drop, map, take}
use Rattle.syn_aiger.specs.Values.{and_variable, reads_above, source_variables}
use Rattle.syn_aiger.proofs.circles.is_in_order.Given as goal

abbrev pub invariant-loop-k : goal.invariant-loop-k
invariant-loop-k l = reads_above ((0 ∷ source_variables l.file.aig) ++ map and_variable (take l.k l.file.aig.ands)) (drop l.k l.file.aig.ands) ≡ reads_above (0 ∷ source_variables l.file.aig) l.file.aig.ands
