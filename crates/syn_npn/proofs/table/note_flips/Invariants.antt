use Rattle.std.proofs.Common.{◌≡◌, ◌+◌, List, ℕ, length}
use Rattle.syn_npn.specs.Keys.{AreNoted}
use Rattle.syn_npn.proofs.table.note_flips.Given as goal

abbrev pub invariant-loop-flips : goal.invariant-loop-flips
invariant-loop-flips l = record {
  count : length l.keys ≡ 65536;
  noted : (old : List ℕ) → AreNoted l.first l.class old l.fn.keys → AreNoted (l.first + l.flips) l.class old l.keys;
}
