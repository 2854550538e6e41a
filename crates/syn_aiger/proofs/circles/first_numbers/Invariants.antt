use Rattle.std.proofs.Common.{◌≡◌, ◌++◌, ◌-◌}
use Rattle.syn_lists.specs.Numbers.{numbers_from}
use Rattle.syn_aiger.proofs.circles.first_numbers.Given as goal

abbrev pub invariant-loop-k : goal.invariant-loop-k
invariant-loop-k l = l.numbers.items ++ numbers_from l.k (l.count - l.k) ≡ numbers_from 0 l.count
