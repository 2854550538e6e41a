use Rattle.std.proofs.Common.{◌≡◌, ◌++◌, drop, flat_map}
use Rattle.syn_models.specs.Listed.{plain_in}
use Rattle.syn_models.proofs.first_fault.all_plain.Given as goal

abbrev pub invariant-loop-s : goal.invariant-loop-s
invariant-loop-s l = l.numbers.items ++ flat_map plain_in (drop l.s-index l.statements) ≡ flat_map plain_in l.statements
