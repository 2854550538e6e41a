use Rattle.syn_cut_functions.specs.CutTruth.{AreOfAll}
use Rattle.syn_cut_functions.proofs.levels.set_all.Given as goal

abbrev pub invariant-loop-found : goal.invariant-loop-found
invariant-loop-found l = AreOfAll l.graph.rows l.lists.items
