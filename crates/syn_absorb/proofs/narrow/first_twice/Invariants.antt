use Rattle.std.proofs.Common.{◌≡◌, drop}
use Rattle.syn_lists.specs.Numbers.{distinct_numbers}
use Rattle.syn_absorb.proofs.narrow.first_twice.Given as goal

abbrev pub invariant-loop-i : goal.invariant-loop-i
invariant-loop-i l = distinct_numbers (drop l.i l.inputs) ≡ distinct_numbers l.inputs
