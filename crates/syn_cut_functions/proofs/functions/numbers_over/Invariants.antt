use Rattle.std.proofs.Common.{take}
use Rattle.syn_cuts.specs.Leaves.{leaves_of}
use Rattle.syn_cut_functions.specs.Functions.{AreFunctionsOver}
use Rattle.syn_cut_functions.proofs.functions.numbers_over.Given as goal

abbrev pub invariant-loop-i : goal.invariant-loop-i
invariant-loop-i l = AreFunctionsOver l.graph.rows l.node (take l.i (leaves_of l.own)) l.numbers.items
