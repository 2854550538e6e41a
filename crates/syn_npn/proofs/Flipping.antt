-- Transforms that differ in their flips alone.
use Rattle.std.proofs.Common.{ℕ, ◌+◌, ◌/◌, ◌%◌, ◌^◌, ◌<◌, ◌≡◌, Bool, true, false, List, refl, sym, ap, ap₂, ◌∙◌, arith}
use Rattle.std.specs.Prelude.{◌==◌}
use Rattle.std.proofs.lemmas.Bool.{eqb-true}
use Rattle.syn_npn.specs.Images.{differ, is_permutation, read_at, value_at}
use Rattle.syn_npn.specs.Permutations.{image_at, neg_at, perm_at, permutation_at}
use Rattle.syn_npn.specs.Values.{image_by}
use Rattle.syn_npn.proofs.Computed.{every, every_at, permutation_at as each_permutation}
use Rattle.syn_npn.proofs.Imaging.{image_by-lt, read_at-lt, value_at-image_by}
use Rattle.syn_npn.proofs.Numbers.{same_from_values}
use Rattle.syn_npn.proofs.Permuting.{permutation_at-permutes}
use Rattle.syn_npn.proofs.Steps.{read_at-none}

-- complementing variables where a transform reads, as its flips do
abbrev flips_back : List ℕ → ℕ → ℕ → Bool
flips_back perm flips m = read_at (permutation_at 0) flips (read_at perm flips m) == read_at perm 0 m

abbrev flips_there : List ℕ → ℕ → ℕ → Bool
flips_there perm flips m = read_at (permutation_at 0) flips (read_at perm 0 m) == read_at perm flips m

flips_back-everywhere : (perm : List ℕ) → is_permutation perm ≡ true → every 16 (λ flips. every 16 (λ m. flips_back perm flips m)) ≡ true
unfolding read_at permutation_at
flips_back-everywhere = each_permutation (λ perm. every 16 (λ flips. every 16 (λ m. flips_back perm flips m))) refl

flips_there-everywhere : (perm : List ℕ) → is_permutation perm ≡ true → every 16 (λ flips. every 16 (λ m. flips_there perm flips m)) ≡ true
unfolding read_at permutation_at
flips_there-everywhere = each_permutation (λ perm. every 16 (λ flips. every 16 (λ m. flips_there perm flips m))) refl

read_at-back : (perm : List ℕ) (flips m : ℕ) → is_permutation perm ≡ true → flips < 16 → m < 16 → read_at (permutation_at 0) flips (read_at perm flips m) ≡ read_at perm 0 m
read_at-back perm flips m p h l =
    eqb-true _ _ (every_at 16 (λ j. flips_back perm flips j) (every_at 16 (λ k. every 16 (λ j. flips_back perm k j)) (flips_back-everywhere perm p) flips h) m l)

read_at-there : (perm : List ℕ) (flips m : ℕ) → is_permutation perm ≡ true → flips < 16 → m < 16 → read_at (permutation_at 0) flips (read_at perm 0 m) ≡ read_at perm flips m
read_at-there perm flips m p h l =
    eqb-true _ _ (every_at 16 (λ j. flips_there perm flips j) (every_at 16 (λ k. every 16 (λ j. flips_there perm k j)) (flips_there-everywhere perm p) flips h) m l)

-- the function with the variables of these flips complemented
abbrev turned : ℕ → ℕ → ℕ
turned flips f = image_by (permutation_at 0) flips false f

-- an image by other flips of a function with complemented variables
image_by-turned : (perm : List ℕ) (a b flips : ℕ) (neg : Bool) (f : ℕ) → ((m : ℕ) → m < 16 → read_at (permutation_at 0) flips (read_at perm a m) ≡ read_at perm b m) → image_by perm a neg (turned flips f) ≡ image_by perm b neg f
image_by-turned perm a b flips neg f same =
    same_from_values (image_by perm a neg (turned flips f)) (image_by perm b neg f) (image_by-lt perm a neg (turned flips f)) (image_by-lt perm b neg f)
    (λ m l.
    value_at-image_by perm a neg (turned flips f) m l
    ∙ ap (differ neg) (value_at-image_by (permutation_at 0) flips false f (read_at perm a m) (read_at-lt perm a m))
    ∙ ap (λ r. differ neg (value_at f r)) (same m l)
    ∙ sym (value_at-image_by perm b neg f m l))

turned_twice : (flips f : ℕ) → flips < 16 → f < 2 ^ 16 → turned flips (turned flips f) ≡ f
turned_twice flips f h small =
    let own : is_permutation (permutation_at 0) ≡ true = permutation_at-permutes 0 (omega arith) in
    same_from_values (turned flips (turned flips f)) f (image_by-lt (permutation_at 0) flips false (turned flips f)) small
    (λ m l.
    value_at-image_by (permutation_at 0) flips false (turned flips f) m l
    ∙ value_at-image_by (permutation_at 0) flips false f (read_at (permutation_at 0) flips m) (read_at-lt (permutation_at 0) flips m)
    ∙ ap (value_at f) (read_at-back (permutation_at 0) flips m own h l ∙ read_at-none m l))

-- the transforms from a place on, where that one has no flips
module _ (first flips : ℕ) (plain : first % 16 ≡ 0) (within : first < 768) (few : flips < 16) where
  same_perm : perm_at (first + flips) ≡ perm_at first
  same_perm =
      let row : (first + flips) / 16 ≡ first / 16 = omega (arith, plain, few) in
      ap (λ k. permutation_at (k % 24)) row

  same_neg : neg_at (first + flips) ≡ neg_at first
  same_neg =
      let top : (first + flips) / 384 ≡ first / 384 = omega (arith, plain, few) in
      ap (λ k. k == 1) top

  own_flips : (first + flips) % 16 ≡ flips
  own_flips = omega (arith, plain, few)

  permutes : is_permutation (perm_at first) ≡ true
  permutes = permutation_at-permutes (first / 16 % 24) (omega arith)

  image_at-is : (f : ℕ) → image_at f (first + flips) ≡ image_by (perm_at first) flips (neg_at first) f
  image_at-is f = ap (λ p. image_by p ((first + flips) % 16) (neg_at (first + flips)) f) same_perm ∙ ap₂ (λ k n. image_by (perm_at first) k n f) own_flips same_neg

  image_at-first : (f : ℕ) → image_at f first ≡ image_by (perm_at first) 0 (neg_at first) f
  image_at-first f = ap (λ k. image_by (perm_at first) k (neg_at first) f) plain

  pub turned_image : (class f : ℕ) → image_at f first ≡ class → image_at (turned flips f) (first + flips) ≡ class
  turned_image class f is =
      image_at-is (turned flips f)
      ∙ image_by-turned (perm_at first) flips 0 flips (neg_at first) f (λ m l. read_at-back (perm_at first) flips m permutes few l)
      ∙ sym (image_at-first f)
      ∙ is

  pub turned_only : (class base : ℕ) → ((f : ℕ) → f < 2 ^ 16 → image_at f first ≡ class → f ≡ base) → (f : ℕ) → f < 2 ^ 16 → image_at f (first + flips) ≡ class → f ≡ turned flips base
  turned_only class base only f small is =
      let back : image_at (turned flips f) first ≡ class =
      image_at-first (turned flips f)
      ∙ image_by-turned (perm_at first) 0 flips flips (neg_at first) f (λ m l. read_at-there (perm_at first) flips m permutes few l)
      ∙ sym (image_at-is f)
      ∙ is in
      sym (turned_twice flips f few small) ∙ ap (turned flips) (only (turned flips f) (image_by-lt (permutation_at 0) flips false f) back)
