use Rattle.std.proofs.Common.{◌≡◌, ◌++◌, map, drop}
use Rattle.syn_models.specs.Called.{called_number}
use Rattle.syn_models.proofs.called_names.called_numbers.Given as goal

abbrev pub invariant-loop-n : goal.invariant-loop-n
invariant-loop-n l = l.called.items ++ map (called_number l.names) (drop l.n-index l.numbers) ≡ map (called_number l.names) l.numbers
