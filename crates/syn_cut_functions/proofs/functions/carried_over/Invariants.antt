use Rattle.std.proofs.Common.{◌≡◌, length}
use Rattle.syn_cut_functions.specs.CutTruth.{AreCarried}
use Rattle.syn_cut_functions.specs.Cuts.{cuts_of}
use Rattle.syn_cut_functions.proofs.functions.carried_over.Given as goal

abbrev pub invariant-loop-i : goal.invariant-loop-i
invariant-loop-i l = record {
  count : length l.carried.items ≡ l.i;
  carried : AreCarried l.graph.rows l.node (cuts_of l.graph.rows l.node) l.carried.items;
}
