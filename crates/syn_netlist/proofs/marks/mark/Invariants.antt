use Rattle.std.proofs.Common.{take}
use Rattle.syn_netlist.specs.Marks.{AreMarks}
use Rattle.syn_netlist.proofs.marks.mark.Given as goal

abbrev pub invariant-loop-n : goal.invariant-loop-n
invariant-loop-n l = AreMarks (take l.n-index l.numbers) l.marks
