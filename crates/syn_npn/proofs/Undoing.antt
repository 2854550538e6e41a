-- The inverse of a transform.
use Rattle.std.proofs.Common.{ℕ, ◌^◌, ◌<◌, ◌≡◌, Bool, true, false, List, refl, get_or, ap, ◌∙◌}
use Rattle.std.specs.Prelude.{◌==◌}
use Rattle.std.proofs.lemmas.Bool.{eqb-true}
use Rattle.syn_npn.specs.Images.{differ, inverse, is_permutation, moved, number_of, read_at, value_at}
use Rattle.syn_npn.specs.Values.{image_by}
use Rattle.syn_npn.proofs.Computed.{every, every_at, permutation_at}
use Rattle.syn_npn.proofs.Numbers.{number_of-lt, same_from_values}
use Rattle.syn_npn.proofs.Imaging.{image_by-lt, read_at-lt, value_at-image_by}

pub moved-is : (back : List ℕ) (flips : ℕ) → moved back flips ≡ number_of 4 (λ j. value_at flips (get_or back j 0))
unfolding moved
moved-is back flips = refl

pub moved-lt : (back : List ℕ) (flips : ℕ) → moved back flips < 16
unfolding moved
moved-lt back flips = number_of-lt 4 (λ j. value_at flips (get_or back j 0))

pub inverse-permutes : (perm : List ℕ) → is_permutation perm ≡ true → is_permutation (inverse perm) ≡ true
inverse-permutes = permutation_at (λ perm. is_permutation (inverse perm)) refl

-- the minterm that the inverse reads is one at which the transform reads the first one
abbrev leads_back : List ℕ → ℕ → ℕ → Bool
leads_back perm flips m = read_at perm flips (read_at (inverse perm) (moved (inverse perm) flips) m) == m

leads_back-everywhere : (perm : List ℕ) → is_permutation perm ≡ true → every 16 (λ flips. every 16 (λ m. leads_back perm flips m)) ≡ true
unfolding read_at moved
leads_back-everywhere = permutation_at (λ perm. every 16 (λ flips. every 16 (λ m. leads_back perm flips m))) refl

read_at-undone : (perm : List ℕ) (flips m : ℕ) → is_permutation perm ≡ true → flips < 16 → m < 16 → read_at perm flips (read_at (inverse perm) (moved (inverse perm) flips) m) ≡ m
read_at-undone perm flips m p h l =
    let some = every_at 16 (λ k. every 16 (λ j. leads_back perm k j)) (leads_back-everywhere perm p) flips h in
    eqb-true _ m (every_at 16 (λ j. leads_back perm flips j) some m l)

differ_twice : (a b : Bool) → differ a (differ a b) ≡ b
differ_twice true true = refl
differ_twice true false = refl
differ_twice false b = refl

pub image_by-undone : (perm : List ℕ) (flips : ℕ) (neg : Bool) (f : ℕ) → is_permutation perm ≡ true → flips < 16 → f < 2 ^ 16 → image_by (inverse perm) (moved (inverse perm) flips) neg (image_by perm flips neg f) ≡ f
image_by-undone perm flips neg f p h small =
    let back = inverse perm in
    let there = moved back flips in
    let g = image_by perm flips neg f in
    same_from_values (image_by back there neg g) f (image_by-lt back there neg g) small
    (λ m l.
    let middle = read_at back there m in
    value_at-image_by back there neg g m l
    ∙ ap (differ neg) (value_at-image_by perm flips neg f middle (read_at-lt back there m))
    ∙ differ_twice neg (value_at f (read_at perm flips middle))
    ∙ ap (value_at f) (read_at-undone perm flips m p h l))

-- ---- the other way round
leads_there : List ℕ → ℕ → ℕ → Bool
leads_there perm flips m = read_at (inverse perm) (moved (inverse perm) flips) (read_at perm flips m) == m

leads_there-everywhere : (perm : List ℕ) → is_permutation perm ≡ true → every 16 (λ flips. every 16 (λ m. leads_there perm flips m)) ≡ true
unfolding read_at moved leads_there
leads_there-everywhere = permutation_at (λ perm. every 16 (λ flips. every 16 (λ m. leads_there perm flips m))) refl

read_at-redone : (perm : List ℕ) (flips m : ℕ) → is_permutation perm ≡ true → flips < 16 → m < 16 → read_at (inverse perm) (moved (inverse perm) flips) (read_at perm flips m) ≡ m
unfolding leads_there
read_at-redone perm flips m p h l =
    let some = every_at 16 (λ k. every 16 (λ j. leads_there perm k j)) (leads_there-everywhere perm p) flips h in
    eqb-true _ m (every_at 16 (λ j. leads_there perm flips j) some m l)

pub image_by-redone : (perm : List ℕ) (flips : ℕ) (neg : Bool) (f : ℕ) → is_permutation perm ≡ true → flips < 16 → f < 2 ^ 16 → image_by perm flips neg (image_by (inverse perm) (moved (inverse perm) flips) neg f) ≡ f
image_by-redone perm flips neg f p h small =
    let back = inverse perm in
    let there = moved back flips in
    let g = image_by back there neg f in
    same_from_values (image_by perm flips neg g) f (image_by-lt perm flips neg g) small
    (λ m l.
    let middle = read_at perm flips m in
    value_at-image_by perm flips neg g m l
    ∙ ap (differ neg) (value_at-image_by back there neg f middle (read_at-lt perm flips m))
    ∙ differ_twice neg (value_at f (read_at back there middle))
    ∙ ap (value_at f) (read_at-redone perm flips m p h l))
