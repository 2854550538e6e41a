-- Bits of a table whose blocks are exchanged by masks and shifts.
use Rattle.std.proofs.Common.{ℕ, ◌+◌, ◌-◌, ◌*◌, ◌/◌, ◌%◌, ◌^◌, ◌<◌, ◌≡◌, Bool, true, false, ◌&&◌, refl, sym, ap, ap₂, ◌∙◌, arith, inl, inr, bit_and, bit_or, max, min}
use Rattle.std.specs.Prelude.{◌==◌, ◌||◌, nat_le}
use Rattle.std.specs.Int.{bit_at}
use Rattle.std.proofs.lemmas.Bool.{cases_lt, le-leb, lt-leb, eqb-true, false≢true}
use Rattle.std.proofs.lemmas.Bool.Decides.{nat_tests}
use Rattle.std.proofs.lemmas.Nat.{shr-shr, and_le_r, shl_whole, pow_pos}
use Rattle.std.proofs.lemmas.Nat.Bits.{bit_at_and, bit_at_or, bit_at-lt, bit_at_cat_low, bit_at_cat_high, bit_at-zero}
use Rattle.syn_npn.specs.Images.{value_at}
use Rattle.syn_npn.proofs.Computed.{every, every_at}

any_set : (x y : ℕ) → x < 2 → y < 2 → (max x y == 1) ≡ (x == 1 || y == 1)
any_set x y h k = grind (arith, nat_tests)

all_set : (x y : ℕ) → x < 2 → y < 2 → (min x y == 1) ≡ (x == 1 && y == 1)
all_set x y h k = grind (arith, nat_tests)

pub value_at-or : (a b m : ℕ) → value_at (bit_or a b) m ≡ (value_at a m || value_at b m)
value_at-or a b m = ap (λ x. x == 1) (bit_at_or a b m) ∙ any_set (bit_at a m) (bit_at b m) (bit_at-lt a m) (bit_at-lt b m)

pub value_at-and : (a b m : ℕ) → value_at (bit_and a b) m ≡ (value_at a m && value_at b m)
value_at-and a b m = ap (λ x. x == 1) (bit_at_and a b m) ∙ all_set (bit_at a m) (bit_at b m) (bit_at-lt a m) (bit_at-lt b m)

-- `a >> k`
pub value_at-shr : (a k m : ℕ) → value_at (a / 2 ^ k) m ≡ value_at a (k + m)
value_at-shr a k m = ap (λ x. x % 2 == 1) (shr-shr a k m)

-- `a << k`, where no bit is lost
pub value_at-shl : (a k m : ℕ) → value_at (a * 2 ^ k) m ≡ (nat_le k m && value_at a (m - k))
value_at-shl a k m =
    let whole : a * 2 ^ k ≡ a * 2 ^ k + 0 = omega arith in
    elim (cases_lt m k) [
      | inl l ↦
          ap (λ x. value_at x m) whole ∙ ap (λ x. x == 1) (bit_at_cat_low a k 0 m l ∙ bit_at-zero m)
          ∙ sym (ap (λ x. x && value_at a (m - k)) (lt-leb k m l))
      | inr g ↦
          ap (λ x. value_at x m) whole ∙ ap (λ x. x == 1) (bit_at_cat_high a k 0 m (pow_pos k) g)
          ∙ sym (ap (λ x. x && value_at a (m - k)) (le-leb k m g))
    ]

-- the value of a table moved by masks at a minterm
abbrev pub moved_value : ℕ → ℕ → ℕ → ℕ → ℕ → Bool
moved_value table kept lower gap m = value_at table m && value_at kept m || value_at table (gap + m) && value_at lower m || nat_le gap m && (value_at table (m - gap) && value_at lower (m - gap))

pub value_at-moved : (table kept lower gap m : ℕ) → gap < 16 → lower < 2 ^ (16 - gap) → value_at (bit_or (bit_or (bit_and table kept) (bit_and (table / 2 ^ gap) lower)) (bit_and table lower * 2 ^ gap % 2 ^ 16)) m ≡ moved_value table kept lower gap m
value_at-moved table kept lower gap m h k =
    let masked = bit_and table lower in
    let whole = shl_whole masked (16 - gap) gap 16 (omega (arith, and_le_r table lower)) (omega arith) in
    value_at-or (bit_or (bit_and table kept) (bit_and (table / 2 ^ gap) lower)) (masked * 2 ^ gap % 2 ^ 16) m
    ∙ ap₂ (λ x y. x || y)
    (value_at-or (bit_and table kept) (bit_and (table / 2 ^ gap) lower) m
    ∙ ap₂ (λ x y. x || y) (value_at-and table kept m) (value_at-and (table / 2 ^ gap) lower m ∙ ap (λ x. x && value_at lower m) (value_at-shr table gap m)))
    (ap (λ x. value_at x m) whole ∙ value_at-shl masked gap m ∙ ap (λ x. nat_le gap m && x) (value_at-and table lower (m - gap)))

-- one of three places is picked, and it is the target
abbrev pub picks : Bool → Bool → Bool → ℕ → ℕ → ℕ → ℕ → Bool
picks true false false here above below target = here == target
picks false true false here above below target = above == target
picks false false true here above below target = below == target
picks _ _ _ here above below target = false

and_true : (x : Bool) → (x && true) ≡ x
and_true true = refl
and_true false = refl

and_false : (x : Bool) → (x && false) ≡ false
and_false true = refl
and_false false = refl

or_false : (x : Bool) → (x || false) ≡ x
or_false true = refl
or_false false = refl

value_of-picked : (t : ℕ → Bool) (a b c : Bool) (here above below target : ℕ) → picks a b c here above below target ≡ true → (t here && a || t above && b || (t below && c)) ≡ t target
value_of-picked t true false false here above below target h = simp (and_true, and_false, or_false) (ap t (eqb-true here target h))
value_of-picked t false true false here above below target h = simp (and_true, and_false, or_false) (ap t (eqb-true above target h))
value_of-picked t false false true here above below target h = simp (and_true, and_false) (ap t (eqb-true below target h))
value_of-picked t true true true here above below target h = absurd (false≢true h)
value_of-picked t true true false here above below target h = absurd (false≢true h)
value_of-picked t true false true here above below target h = absurd (false≢true h)
value_of-picked t false true true here above below target h = absurd (false≢true h)
value_of-picked t false false false here above below target h = absurd (false≢true h)

turned : (l x y : Bool) → (l && (x && y)) ≡ (x && (l && y))
turned true x y = refl
turned false true y = refl
turned false false y = refl

-- the target is picked at each minterm, for each variable below n
abbrev pub picks_each : ℕ → (ℕ → ℕ) → (ℕ → ℕ) → (ℕ → ℕ → ℕ) → Bool
picks_each n kept lower target = every n (λ i. every 16 (λ m. picks (value_at (kept i) m) (value_at (lower i) m) (nat_le (2 ^ i) m && value_at (lower i) (m - 2 ^ i)) m (2 ^ i + m) (m - 2 ^ i) (target i m)))

-- where the masks pick the target, the table moved by them has its value there
pub moved_value-picked : (table kept lower gap m target : ℕ) → picks (value_at kept m) (value_at lower m) (nat_le gap m && value_at lower (m - gap)) m (gap + m) (m - gap) target ≡ true → moved_value table kept lower gap m ≡ value_at table target
moved_value-picked table kept lower gap m target h =
    ap (λ x. value_at table m && value_at kept m || value_at table (gap + m) && value_at lower m || x) (turned (nat_le gap m) (value_at table (m - gap)) (value_at lower (m - gap)))
    ∙ value_of-picked (value_at table) (value_at kept m) (value_at lower m) (nat_le gap m && value_at lower (m - gap)) m (gap + m) (m - gap) target h

pub moved_value-each : (n : ℕ) (kept lower : ℕ → ℕ) (target : ℕ → ℕ → ℕ) → picks_each n kept lower target ≡ true → (i m : ℕ) → i < n → m < 16 → (table : ℕ) → moved_value table (kept i) (lower i) (2 ^ i) m ≡ value_at table (target i m)
moved_value-each n kept lower target h i m l k table =
    let test : ℕ → ℕ → Bool = λ j e. picks (value_at (kept j) e) (value_at (lower j) e) (nat_le (2 ^ j) e && value_at (lower j) (e - 2 ^ j)) e (2 ^ j + e) (e - 2 ^ j) (target j e) in
    moved_value-picked table (kept i) (lower i) (2 ^ i) m (target i m) (every_at 16 (test i) (every_at n (λ j. every 16 (test j)) h i l) m k)
