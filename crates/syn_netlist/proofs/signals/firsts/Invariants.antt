use Rattle.std.proofs.Common.{◌≡◌, length, drop}
use Rattle.syn_netlist.specs.Marks.{AreMarks, first_numbers}
use Rattle.syn_netlist.proofs.Marking.{firsts_after}
use Rattle.syn_netlist.proofs.signals.firsts.Given as goal

abbrev pub invariant-loop-n : goal.invariant-loop-n
invariant-loop-n l = record {
  rest : firsts_after l.found.items (drop l.n-index l.numbers) ≡ first_numbers l.numbers;
  marks : AreMarks l.found.items l.places;
  many : length l.places ≡ l.count;
}
