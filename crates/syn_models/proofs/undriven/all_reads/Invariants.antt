use Rattle.std.proofs.Common.{◌≡◌, ◌++◌, drop, flat_map}
use Rattle.syn_models.specs.Files.{all_in}
use Rattle.syn_models.specs.Reading.{read_in}
use Rattle.syn_models.proofs.undriven.all_reads.Given as goal

abbrev pub invariant-loop-s : goal.invariant-loop-s
invariant-loop-s l = l.numbers.items ++ flat_map (read_in (all_in l.file)) (drop l.s-index l.statements) ≡ flat_map (read_in (all_in l.file)) l.statements
