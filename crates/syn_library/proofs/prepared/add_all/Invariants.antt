use Rattle.std.proofs.Common.{◌≡◌, ◌≤◌, length}
use Rattle.syn_library.specs.Prepared.{AreFound}
use Rattle.syn_library.proofs.prepared.add_all.Given as goal

abbrev pub invariant-loop-function : goal.invariant-loop-function
invariant-loop-function l = record {
  count : length l.places ≡ 65536;
  few : length l.lists.items ≤ l.function;
  found : AreFound l.function l.lists.items l.places;
}
