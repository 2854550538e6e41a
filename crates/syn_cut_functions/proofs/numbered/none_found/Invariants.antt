use Rattle.std.proofs.Common.{◌≡◌, All, length}
use Rattle.syn_cut_functions.proofs.CutTruth.{IsNothing}
use Rattle.syn_cut_functions.proofs.numbered.none_found.Given as goal

abbrev pub invariant-loop : goal.invariant-loop
invariant-loop l = record {
  count : length l.lists.items ≡ l.counter;
  none : All IsNothing l.lists.items;
}
