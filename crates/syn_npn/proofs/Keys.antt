-- The least key gives the class and its transform.
use Rattle.std.proofs.Common.{ℕ, ◌+◌, ◌*◌, ◌-◌, ◌/◌, ◌%◌, ◌^◌, ◌<◌, ◌≤◌, ◌≡◌, false, sym, ap, ◌∙◌, arith, inl, inr}
use Rattle.std.proofs.lemmas.Bool.{cases_lt}
use Rattle.syn_npn.specs.Permutations.{IsKey, image_at, key_at, neg_at, perm_at, permutation_at}
use Rattle.syn_npn.specs.Images.{value_at}
use Rattle.syn_npn.specs.Values.{image_by}
use Rattle.syn_npn.proofs.Imaging.{image_by-lt, value_at-image_by}
use Rattle.syn_npn.proofs.Numbers.{same_from_values}
use Rattle.syn_npn.proofs.Steps.{read_at-none, key_at-plain}

-- the first transform changes nothing
image_by-first : (f : ℕ) → f < 2 ^ 16 → f ≡ image_by (permutation_at 0) 0 false f
image_by-first f h =
    same_from_values f (image_by (permutation_at 0) 0 false f) h (image_by-lt (permutation_at 0) 0 false f)
    (λ m l. sym (value_at-image_by (permutation_at 0) 0 false f m l ∙ ap (value_at f) (read_at-none m l)))

pub key_at-first : (f : ℕ) → f < 2 ^ 16 → f * 1024 ≡ key_at f 0
key_at-first f h =
    let key = key_at-plain f 0 0 (omega arith) (omega arith) in
    omega (arith, key, image_by-first f h)

-- a key below those of all permutations and flips, plain and negated, is below each
pub least-each : (f key : ℕ) → ((i perm : ℕ) → i < 16 → perm < 24 → key ≤ key_at f (perm * 16 + i)) → ((i perm : ℕ) → i < 16 → perm < 24 → key ≤ key_at f (perm * 16 + i + 384)) → (k : ℕ) → k < 768 → key ≤ key_at f k
least-each f key plain negated k h =
    elim (cases_lt k 384) [
      | inl l ↦
          let is : k / 16 * 16 + k % 16 ≡ k = omega arith in
          omega (arith, ap (key_at f) is, plain (k % 16) (k / 16) (omega arith) (omega arith))
      | inr g ↦
          let is : (k - 384) / 16 * 16 + (k - 384) % 16 + 384 ≡ k = omega arith in
          omega (arith, ap (key_at f) is, negated ((k - 384) % 16) ((k - 384) / 16) (omega arith) (omega arith))
    ]

pub key-parts : (f key : ℕ) → IsKey f key → (key / 1024 ≡ image_at f (key % 1024)) × (key % 1024 < 768) × (key / 1024 < 2 ^ 16)
unfolding key_at
key-parts f key (k, h, e) =
    let image = image_at f k in
    let small = image_by-lt (perm_at k) (k % 16) (neg_at k) f in
    let place : key % 1024 ≡ k = omega arith in
    let class : key / 1024 ≡ image = omega arith in
    (class ∙ ap (image_at f) (sym place), omega arith, omega arith)

pub image-least : (f key k : ℕ) → key ≤ key_at f k → k < 768 → key / 1024 ≤ image_at f k
unfolding key_at
image-least f key k h l = omega arith

pub image-first : (f key k : ℕ) → key ≤ key_at f k → k < key % 1024 → key / 1024 < image_at f k
unfolding key_at
image-first f key k h l = omega arith
