use Rattle.std.proofs.Common.{◌≡◌, drop, length}
use Rattle.syn_aiger.specs.WrittenLists.{ArePlaced}
use Rattle.syn_aiger.proofs.writer.place_literals.Given as goal

abbrev pub invariant-loop-i : goal.invariant-loop-i
invariant-loop-i l = record {
  count : length l.literals ≡ length l.initial.literals;
  placed : ArePlaced l.signals l.lits (drop l.i l.signals) l.literals;
}
