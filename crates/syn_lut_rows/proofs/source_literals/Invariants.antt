use Rattle.std.proofs.Common.{◌≡◌, ◌+◌, ◌-◌, ◌++◌, map}
use Rattle.syn_lists.specs.Numbers.{numbers_from}
use Rattle.syn_rows.specs.Joining.{lit_of}
use Rattle.syn_lut_rows.specs.LutLiterals.{plain_literals}
use Rattle.syn_lut_rows.proofs.source_literals.Given as goal

abbrev pub invariant-loop-node : goal.invariant-loop-node
invariant-loop-node l = l.literals.items ++ map lit_of (numbers_from l.node (l.count + 1 - l.node)) ≡ plain_literals (l.count + 1)
