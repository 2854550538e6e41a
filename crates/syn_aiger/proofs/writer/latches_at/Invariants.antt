use Rattle.std.proofs.Common.{◌≡◌, ◌++◌, ◌+◌, drop, length, true}
use Rattle.syn_netlist.specs.Kept.{latches_below}
use Rattle.syn_aiger.specs.WrittenLists.{latches_at}
use Rattle.syn_aiger.proofs.writer.latches_at.Given as goal

abbrev pub invariant-loop-latch : goal.invariant-loop-latch
invariant-loop-latch l = record {
  made : l.made.items ++ latches_at l.literals l.variable (drop l.latch-index l.latches) ≡ latches_at l.literals l.first l.latches;
  variable : l.variable ≡ l.first + l.latch-index;
  below : latches_below (length l.literals) (drop l.latch-index l.latches) ≡ true;
}
