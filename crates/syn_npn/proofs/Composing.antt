-- Images of images, and the class of an image.
use Rattle.std.proofs.Common.{ℕ, zero, suc, ◌+◌, ◌/◌, ◌%◌, ◌^◌, ◌<◌, ◌≡◌, Bool, true, false, nat_lt, cond, List, map, length, get_or, refl, sym, ap, ap₂, ◌∙◌, arith}
use Rattle.std.specs.Prelude.{◌==◌}
use Rattle.std.proofs.lemmas.Bool.{eqb-true, ltb-true}
use Rattle.std.proofs.lemmas.List.{get_or-map}
use Rattle.syn_npn.specs.declared.Transform.{Transform}
use Rattle.syn_npn.specs.Images.{differ, inverse, is_permutation, moved, number_of, read_at, value_at, value_read}
use Rattle.syn_npn.specs.Keys.{canon_key, class_of}
use Rattle.syn_npn.specs.Permutations.{neg_at, perm_at}
use Rattle.syn_npn.specs.Transforms.{IsCanon, image_of}
use Rattle.syn_npn.specs.Values.{image_by}
use Rattle.syn_npn.proofs.Computed.{every, every_at, every_permutation, permutation_at}
use Rattle.syn_npn.proofs.Imaging.{image_by-lt, read_at-is, read_at-lt, value_at-image_by}
use Rattle.syn_npn.proofs.Least.{canon_key-canon}
use Rattle.syn_npn.proofs.Numbers.{number_of-lt, same_from_values, value_at-number_of}
use Rattle.syn_npn.proofs.Permuting.{permutation_at-permutes}
use Rattle.syn_npn.proofs.Undoing.{image_by-undone, inverse-permutes, moved-lt}

number_of-same : (n : ℕ) (p q : ℕ → Bool) → ((i : ℕ) → i < n → p i ≡ q i) → number_of n p ≡ number_of n q
number_of-same zero p q h = refl
number_of-same (suc n) p q h = ap₂ (λ a b. a + cond b (2 ^ n) 0) (number_of-same n p q (λ i l. h i (omega arith))) (h n (omega arith))

differ_chain : (a b c : Bool) → differ (differ a b) c ≡ differ a (differ b c)
differ_chain true true true = refl
differ_chain true true false = refl
differ_chain true false c = refl
differ_chain false b c = refl

-- ---- a transform after another one
abbrev through : List ℕ → List ℕ → List ℕ
through p q = map (λ j. get_or q j 0) p

abbrev flip_through : List ℕ → ℕ → ℕ → ℕ → Bool
flip_through p f g i = differ (value_at g (get_or p i 0)) (value_at f i)

four : (p : List ℕ) → is_permutation p ≡ true → length p ≡ 4
four p h = eqb-true _ 4 (permutation_at (λ p. length p == 4) refl p h)

place-small : (p : List ℕ) → is_permutation p ≡ true → (i : ℕ) → i < 4 → get_or p i 0 < 4
place-small p h i l = ltb-true _ 4 (every_at 4 (λ i. nat_lt (get_or p i 0) 4) (permutation_at (λ p. every 4 (λ i. nat_lt (get_or p i 0) 4)) refl p h) i l)

through-permutes : (p q : List ℕ) → is_permutation p ≡ true → is_permutation q ≡ true → is_permutation (through p q) ≡ true
through-permutes p q h k = permutation_at (λ b. is_permutation (through p b)) (permutation_at (λ a. every_permutation (λ b. is_permutation (through a b))) refl p h) q k

module _ (p q : List ℕ) (f g m : ℕ) (permutes : is_permutation p ≡ true) where
  test_through : (i : ℕ) → i < 4 → value_read p f (read_at q g m) i ≡ value_read (through p q) (number_of 4 (flip_through p f g)) m i
  test_through i l =
      let at : ℕ = get_or p i 0 in
      ap (λ r. differ (value_at r at) (value_at f i)) (read_at-is q g m)
      ∙ ap (λ b. differ b (value_at f i)) (value_at-number_of 4 (value_read q g m) at (place-small p permutes i l))
      ∙ differ_chain (value_at m (get_or q at 0)) (value_at g at) (value_at f i)
      ∙ sym (ap₂ (λ k b. differ (value_at m k) b) (get_or-map (λ j. get_or q j 0) p i 0 0 (omega (arith, l, four p permutes))) (value_at-number_of 4 (flip_through p f g) i l))

  read_at-through : read_at p f (read_at q g m) ≡ read_at (through p q) (number_of 4 (flip_through p f g)) m
  read_at-through =
      read_at-is p f (read_at q g m)
      ∙ number_of-same 4 (value_read p f (read_at q g m)) (value_read (through p q) (number_of 4 (flip_through p f g)) m) test_through
      ∙ sym (read_at-is (through p q) (number_of 4 (flip_through p f g)) m)

image_by-through : (p q : List ℕ) (f g : ℕ) (n k : Bool) (x : ℕ) → is_permutation p ≡ true → image_by q g k (image_by p f n x) ≡ image_by (through p q) (number_of 4 (flip_through p f g)) (differ k n) x
image_by-through p q f g n k x h =
    same_from_values (image_by q g k (image_by p f n x)) (image_by (through p q) (number_of 4 (flip_through p f g)) (differ k n) x)
    (image_by-lt q g k (image_by p f n x)) (image_by-lt (through p q) (number_of 4 (flip_through p f g)) (differ k n) x)
    (λ m l.
    value_at-image_by q g k (image_by p f n x) m l
    ∙ ap (differ k) (value_at-image_by p f n x (read_at q g m) (read_at-lt q g m))
    ∙ ap (λ r. differ k (differ n (value_at x r))) (read_at-through p q f g m h)
    ∙ sym (differ_chain k n (value_at x (read_at (through p q) (number_of 4 (flip_through p f g)) m)))
    ∙ sym (value_at-image_by (through p q) (number_of 4 (flip_through p f g)) (differ k n) x m l))

-- u after t
abbrev after : Transform → Transform → Transform
after u t = record {
  perm = through t.perm u.perm;
  flips = number_of 4 (flip_through t.perm t.flips u.flips);
  neg = differ u.neg t.neg;
  permutes = through-permutes t.perm u.perm t.permutes u.permutes;
  few = number_of-lt 4 (flip_through t.perm t.flips u.flips);
}

image_of-after : (u t : Transform) (x : ℕ) → image_of u (image_of t x) ≡ image_of (after u t) x
image_of-after u t x = image_by-through t.perm u.perm t.flips u.flips t.neg u.neg x t.permutes

abbrev back : Transform → Transform
back t = record {
  perm = inverse t.perm;
  flips = moved (inverse t.perm) t.flips;
  neg = t.neg;
  permutes = inverse-permutes t.perm t.permutes;
  few = moved-lt (inverse t.perm) t.flips;
}

-- ---- the class of an image is that of the function
abbrev pub made_at : (k : ℕ) → Transform
made_at k = record {
  perm = perm_at k;
  flips = k % 16;
  neg = neg_at k;
  permutes = permutation_at-permutes (k / 16 % 24) (omega arith);
  few = omega arith;
}

pub canon_of : (f : ℕ) → IsCanon f (class_of f) (made_at (canon_key f % 1024))
canon_of f = canon_key-canon f (canon_key f) (made_at (canon_key f % 1024)) refl refl refl refl

pub class_of-image : (f : ℕ) (t : Transform) → f < 2 ^ 16 → class_of (image_of t f) ≡ class_of f
class_of-image f t small =
    let g : ℕ = image_of t f in
    let here : IsCanon f (class_of f) (made_at (canon_key f % 1024)) = canon_of f in
    let there : IsCanon g (class_of g) (made_at (canon_key g % 1024)) = canon_of g in
    let s : Transform = made_at (canon_key f % 1024) in
    let u : Transform = made_at (canon_key g % 1024) in
    let undone : image_of (back t) g ≡ f = image_by-undone t.perm t.flips t.neg f t.permutes t.few small in
    let down : image_of (after s (back t)) g ≡ class_of f = sym (image_of-after s (back t) g) ∙ ap (image_of s) undone ∙ sym here.image in
    let up : image_of (after u t) f ≡ class_of g = sym (image_of-after u t f) ∙ sym there.image in
    omega (arith, there.least (after s (back t)), down, here.least (after u t), up)
