use Rattle.std.proofs.Common.{◌≡◌, ◌*◌, length}
use Rattle.syn_npn.specs.Keys.{AreNoted}
use Rattle.syn_npn.proofs.table.note_class.Given as goal

abbrev pub invariant-loop-block : goal.invariant-loop-block
invariant-loop-block l = record {
  count : length l.keys ≡ 65536;
  noted : AreNoted (l.block * 16) l.class l.fn.keys l.keys;
}
