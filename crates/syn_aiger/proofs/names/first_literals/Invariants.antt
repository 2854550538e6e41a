use Rattle.std.proofs.Common.{◌≡◌, ◌+◌, ◌-◌, ◌++◌}
use Rattle.syn_aiger_files.specs.Literals.{literals_from}
use Rattle.syn_aiger.proofs.names.first_literals.Given as goal

abbrev pub invariant-loop-k : goal.invariant-loop-k
invariant-loop-k l = l.literals.items ++ literals_from (1 + l.k) (l.count - l.k) ≡ literals_from 1 l.count
