use Rattle.std.proofs.Common.{map}
use Rattle.syn_aiger.specs.Values.{and_variable}
use Rattle.syn_aiger.proofs.Netting.{Behind}
use Rattle.syn_aiger.proofs.circles.variables_of.Given as goal

abbrev pub invariant-loop-word : goal.invariant-loop-word
invariant-loop-word l = Behind (map and_variable l.file.aig.ands) l.variables.items l.words l.word-index
