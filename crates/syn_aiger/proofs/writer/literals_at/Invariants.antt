use Rattle.std.proofs.Common.{◌≡◌, ◌++◌, map, drop}
use Rattle.syn_aiger.specs.WrittenLists.{literal_at}
use Rattle.syn_aiger.proofs.writer.literals_at.Given as goal

abbrev pub invariant-loop-number : goal.invariant-loop-number
invariant-loop-number l = l.found.items ++ map (literal_at l.literals) (drop l.number-index l.numbers) ≡ map (literal_at l.literals) l.numbers
