use Rattle.std.proofs.Common.{◌≡◌, ◌++◌, drop, map}
use Rattle.syn_aiger.specs.Values.{and_variable}
use Rattle.syn_aiger.proofs.circles.push_ands.Given as goal

abbrev pub invariant-loop-a : goal.invariant-loop-a
invariant-loop-a l = l.variables.items ++ map and_variable (drop l.a-index l.ands) ≡ l.initial.variables.items ++ map and_variable l.ands
