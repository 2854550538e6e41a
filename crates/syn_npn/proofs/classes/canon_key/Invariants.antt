use Rattle.std.proofs.Common.{ℕ, ◌+◌, ◌*◌, ◌<◌, ◌≤◌}
use Rattle.syn_npn.specs.Permutations.{IsKey, key_at}
use Rattle.syn_npn.proofs.classes.canon_key.Given as goal

abbrev pub invariant-loop-flips : goal.invariant-loop-flips
invariant-loop-flips l = record {
  key : IsKey l.function l.key;
  plain : (i perm : ℕ) → i < l.flips → perm < 24 → l.key ≤ key_at l.function (perm * 16 + i);
  negated : (i perm : ℕ) → i < l.flips → perm < 24 → l.key ≤ key_at l.function (perm * 16 + i + 384);
}
