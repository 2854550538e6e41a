use Rattle.std.proofs.Common.{◌≡◌, ◌++◌, drop, flat_map}
use Rattle.syn_models.specs.Listed.{listed_in}
use Rattle.syn_models.proofs.ports.all_listed.Given as goal

abbrev pub invariant-loop-s : goal.invariant-loop-s
invariant-loop-s l = l.numbers.items ++ flat_map (listed_in l.role) (drop l.s-index l.statements) ≡ flat_map (listed_in l.role) l.statements
