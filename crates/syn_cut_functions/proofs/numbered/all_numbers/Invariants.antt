use Rattle.std.proofs.Common.{◌≡◌, length}
use Rattle.syn_cut_functions.specs.CutTruth.{AreOfAll}
use Rattle.syn_cut_functions.specs.Functions.{HaveFunctions}
use Rattle.syn_cut_functions.proofs.numbered.all_numbers.Given as goal

abbrev pub invariant-loop-node : goal.invariant-loop-node
invariant-loop-node l = record {
  lists : AreOfAll l.graph.rows l.lists.items;
  count : length l.all.items ≡ l.node;
  functions : HaveFunctions l.graph.rows l.all.items;
}
