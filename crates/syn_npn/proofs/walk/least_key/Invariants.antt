use Rattle.std.proofs.Common.{◌≡◌, ℕ, ◌+◌, ◌*◌, ◌<◌, ◌≤◌, false}
use Rattle.syn_npn.specs.Permutations.{IsKey, key_at}
use Rattle.syn_npn.specs.Values.{image_by}
use Rattle.syn_npn.specs.Walk.{walk_at}
use Rattle.syn_npn.proofs.Steps.{perm_of_turn}
use Rattle.syn_npn.proofs.walk.least_key.Given as goal

abbrev pub invariant-loop-turn : goal.invariant-loop-turn
invariant-loop-turn l = record {
  image : l.image ≡ image_by (perm_of_turn l.turn) l.flips false l.function;
  key : IsKey l.function l.least;
  kept : l.least ≤ l.key;
  plain : (turn : ℕ) → turn < l.turn → l.least ≤ key_at l.function (walk_at turn * 16 + l.flips);
  negated : (turn : ℕ) → turn < l.turn → l.least ≤ key_at l.function (walk_at turn * 16 + l.flips + 384);
}
