use Rattle.std.proofs.Common.{◌≡◌, ◌-◌, ◌++◌}
use Rattle.syn_truth.proofs.Minterms.{values_at}
use Rattle.syn_cec.proofs.by_values.values_of.Given as goal

abbrev pub invariant-loop-i : goal.invariant-loop-i
invariant-loop-i l = l.values.items ++ values_at (l.count - l.i) l.left ≡ values_at l.count l.number
