use Rattle.std.proofs.Common.{◌≡◌, length}
use Rattle.syn_npn.specs.Keys.{AreSeen}
use Rattle.syn_npn.proofs.table.all_keys.Given as goal

abbrev pub invariant-loop-number : goal.invariant-loop-number
invariant-loop-number l = record {
  count : length l.keys.items ≡ 65536;
  seen : AreSeen l.number l.keys.items;
}
