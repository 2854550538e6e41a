use Rattle.syn_cut_functions.specs.CutTruth.{AreOfAll}
use Rattle.syn_cut_functions.proofs.levels.set_each.Given as goal

abbrev pub invariant-loop-all : goal.invariant-loop-all
invariant-loop-all l = AreOfAll l.graph.rows l.lists.items
