use Rattle.std.proofs.Common.{All}
use Rattle.syn_cut_functions.specs.CutTruth.{IsFoundIn}
use Rattle.syn_cut_functions.proofs.levels.find_all.Given as goal

abbrev pub invariant-loop-node : goal.invariant-loop-node
invariant-loop-node l = All (IsFoundIn l.graph.rows) l.found.items
