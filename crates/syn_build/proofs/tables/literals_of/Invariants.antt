use Rattle.std.proofs.Common.{◌≡◌, ◌++◌, map, drop}
use Rattle.syn_hashed.specs.Hashed.{lit_at}
use Rattle.syn_build.proofs.tables.literals_of.Given as goal

abbrev pub invariant-loop-number : goal.invariant-loop-number
invariant-loop-number l = l.found.items ++ map (lit_at l.literals) (drop l.number-index l.numbers) ≡ map (lit_at l.literals) l.numbers
