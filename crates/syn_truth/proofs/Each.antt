-- Tests at each list of values, and tables with the same values.
use Rattle.std.proofs.Common.{◌≡◌, ℕ, zero, suc, ◌+◌, ◌-◌, ◌*◌, ◌%◌, ◌^◌, ◌<◌, ◌≤◌, min, cond, ltb, Bool, true, false, ◌&&◌, eqb, List, [], ◌∷◌, length, nat_eq, refl, sym, ap, ap₂, ◌∙◌, subst, inl, inr, arith}
use Rattle.std.proofs.Math.Bridge.{le_prop}
use Rattle.std.proofs.Math.ListN.{set}
use Rattle.std.proofs.lemmas.Bool.{and_parts, and_from, and_cases, eqb-true, eq-eqb, false≢true, false_from_ne_true}
use Rattle.std.proofs.lemmas.Bool.Decides.{same_from_decides}
use Rattle.std.specs.Bool.{beq}
use Rattle.std.proofs.lemmas.Nat.Bits.{bit_at-lt, same_from_bits_below}
use Rattle.std.specs.Int.{bit_at}
use Rattle.syn_truth.specs.declared.Truth.{Truth}
use Rattle.std.proofs.Math.Nat.{pow-le-pow_right}
use Rattle.syn_truth.specs.Truth.{AtEach, Depends, digit, holds_at_each, minterm_of, value_at, value_of}
use Rattle.syn_truth.proofs.Halves.{word_at}
use Rattle.syn_truth.proofs.Minterms.{values_at, length-values_at, minterm_of-values_at}

pub each_at : (n : ℕ) (p : List Bool → Bool) → holds_at_each n p ≡ true → AtEach n (λ xs. p xs ≡ true)
each_at zero p h [] l = h
each_at zero p h (x ∷ xs) l = absurd (omega arith)
each_at (suc n) p h [] l = absurd (omega arith)
each_at (suc n) p h (true ∷ xs) l = each_at n (λ ys. p (true ∷ ys)) (and_parts _ (holds_at_each n (λ ys. p (false ∷ ys))) h).0 xs (omega arith)
each_at (suc n) p h (false ∷ xs) l = each_at n (λ ys. p (false ∷ ys)) (and_parts (holds_at_each n (λ ys. p (true ∷ ys))) _ h).1 xs (omega arith)

pub each_from : (n : ℕ) (p : List Bool → Bool) → AtEach n (λ xs. p xs ≡ true) → holds_at_each n p ≡ true
each_from zero p h = h [] refl
each_from (suc n) p h =
    and_from _ _
    (each_from n (λ ys. p (true ∷ ys)) (λ xs l. h (true ∷ xs) (ap suc l)))
    (each_from n (λ ys. p (false ∷ ys)) (λ xs l. h (false ∷ xs) (ap suc l)))

-- where the test fails, it fails at some list
pub some_from : (n : ℕ) (p : List Bool → Bool) → holds_at_each n p ≡ false → (xs : List Bool) × (length xs ≡ n) × (p xs ≡ false)
some_from zero p h = ([], refl, h)
some_from (suc n) p h =
    elim (and_cases (holds_at_each n (λ ys. p (true ∷ ys))) (holds_at_each n (λ ys. p (false ∷ ys))) h) [
      | inl e ↦ let at : (xs : List Bool) × (length xs ≡ n) × (p (true ∷ xs) ≡ false) = some_from n (λ ys. p (true ∷ ys)) e in (true ∷ at.0, ap suc at.1, at.2)
      | inr e ↦ let at : (xs : List Bool) × (length xs ≡ n) × (p (false ∷ xs) ≡ false) = some_from n (λ ys. p (false ∷ ys)) e in (false ∷ at.0, ap suc at.1, at.2)
    ]

-- the test sees only the values of its function
pub each_same : (n : ℕ) (p q : List Bool → Bool) → AtEach n (λ xs. p xs ≡ q xs) → holds_at_each n p ≡ holds_at_each n q
each_same zero p q h = h [] refl
each_same (suc n) p q h =
    ap₂ (λ a b. a && b)
    (each_same n (λ ys. p (true ∷ ys)) (λ ys. q (true ∷ ys)) (λ xs l. h (true ∷ xs) (ap suc l)))
    (each_same n (λ ys. p (false ∷ ys)) (λ ys. q (false ∷ ys)) (λ xs l. h (false ∷ xs) (ap suc l)))

same_bit : (a b : ℕ) → a < 2 → b < 2 → nat_eq a 1 ≡ nat_eq b 1 → a ≡ b
same_bit a b h k e = grind arith

-- two tables of as many variables with the same values have the same words
module _ (f g : Truth) (e : f.vars ≡ g.vars) (same : AtEach f.vars (λ xs. value_of f xs ≡ value_of g xs)) where
  same_at : (m : ℕ) → m < 2 ^ f.vars → nat_eq (bit_at (cond (ltb m 128) f.low f.high) (m % 128)) 1 ≡ nat_eq (bit_at (cond (ltb m 128) g.low g.high) (m % 128)) 1
  unfolding value_of value_at
  same_at m l =
      subst (λ (k : ℕ). nat_eq (bit_at (cond (ltb k 128) f.low f.high) (k % 128)) 1 ≡ nat_eq (bit_at (cond (ltb k 128) g.low g.high) (k % 128)) 1) (minterm_of-values_at f.vars m l)
      (same (values_at f.vars m) (length-values_at f.vars m))

  -- bit b of the word that holds the minterms from 128 * digit x on
  bit_in : (b : ℕ) (x : Bool) → b < 128 → b + digit x * 128 < 2 ^ f.vars → bit_at (cond x f.high f.low) b ≡ bit_at (cond x g.high g.low) b
  bit_in b x h l =
      same_bit (bit_at (cond x f.high f.low) b) (bit_at (cond x g.high g.low) b) (bit_at-lt (cond x f.high f.low) b) (bit_at-lt (cond x g.high g.low) b)
      (ap (λ d. nat_eq d 1) (sym (word_at f.low f.high (b + digit x * 128) b x h refl))
      ∙ same_at (b + digit x * 128) l
      ∙ ap (λ d. nat_eq d 1) (word_at g.low g.high (b + digit x * 128) b x h refl))

  pub same_low : f.low ≡ g.low
  same_low =
      let small : g.low < 2 ^ min (2 ^ f.vars) 128 = omega (arith, g.low_small, ap (λ n. 2 ^ min (2 ^ n) 128) e) in
      same_from_bits_below (min (2 ^ f.vars) 128) f.low g.low f.low_small small (λ b l. bit_in b false (omega arith) (omega arith))

  pub same_high : f.high ≡ g.high
  same_high =
      let small : g.high < 2 ^ (2 ^ f.vars - 128) = omega (arith, g.high_small, ap (λ n. 2 ^ (2 ^ n - 128)) e) in
      let most : 2 ^ f.vars ≤ 2 ^ 8 = pow-le-pow_right (omega arith) f.few in
      same_from_bits_below (2 ^ f.vars - 128) f.high g.high f.high_small small (λ b l. bit_in b true (omega arith) (omega arith))

-- and tables with the same words have the same values
pub same_values : (f g : Truth) → f.low ≡ g.low → f.high ≡ g.high → (xs : List Bool) → value_of f xs ≡ value_of g xs
unfolding value_of value_at
same_values f g e h xs = ap₂ (λ low high. nat_eq (bit_at (cond (ltb (minterm_of xs) 128) low high) (minterm_of xs % 128)) 1) e h

pub same_test : (a b : Bool) → a ≡ b → beq a b ≡ true
same_test true b e = subst (λ (x : Bool). beq true x ≡ true) e refl
same_test false b e = subst (λ (x : Bool). beq false x ≡ true) e refl

pub same_from_test : (a b : Bool) → beq a b ≡ true → a ≡ b
same_from_test true true e = refl
same_from_test false false e = refl
same_from_test true false e = cc
same_from_test false true e = cc

-- `==` on two tables of as many variables tells whether they have the same values
pub equal_test : (f g : Truth) → f.vars ≡ g.vars → (eqb f.vars g.vars && (eqb f.low g.low && eqb f.high g.high)) ≡ holds_at_each f.vars (λ xs. beq (value_of f xs) (value_of g xs))
equal_test f g e =
    same_from_decides {P = (f.low ≡ g.low) × (f.high ≡ g.high)} _ _ (
      λ h. let words : (eqb f.low g.low ≡ true) × (eqb f.high g.high ≡ true) = and_parts _ _ (and_parts _ _ h).1 in (eqb-true _ _ words.0, eqb-true _ _ words.1),
      λ h. and_from _ _ (eq-eqb _ _ e) (and_from _ _ (eq-eqb _ _ h.0) (eq-eqb _ _ h.1)),
    ) (
      λ h. let same : AtEach f.vars (λ xs. value_of f xs ≡ value_of g xs) = λ xs l. same_from_test _ _ (each_at f.vars _ h xs l) in (same_low f g e same, same_high f g e same),
      λ h. each_from f.vars _ (λ xs l. same_test _ _ (same_values f g h.0 h.1 xs)),
    )

-- a table depends on a variable exactly where its two cofactors differ at some list
pub depends_from : (f : Truth) (i : ℕ) → holds_at_each f.vars (λ xs. beq (value_of f (set xs i true)) (value_of f (set xs i false))) ≡ false → Depends f i
depends_from f i h =
    let at : (xs : List Bool) × (length xs ≡ f.vars) × (beq (value_of f (set xs i true)) (value_of f (set xs i false)) ≡ false) = some_from f.vars (λ xs. beq (value_of f (set xs i true)) (value_of f (set xs i false))) h in
    (at.0, at.1, λ e. false≢true (sym at.2 ∙ same_test _ _ e))

pub depends_test : (f : Truth) (i : ℕ) → Depends f i → holds_at_each f.vars (λ xs. beq (value_of f (set xs i true)) (value_of f (set xs i false))) ≡ false
depends_test f i d =
    false_from_ne_true _ (λ h. d.2 (same_from_test _ _ (each_at f.vars (λ xs. beq (value_of f (set xs i true)) (value_of f (set xs i false))) h d.0 d.1)))

abbrev record_of : (vars low high : ℕ) (few : vars ≤ 8) (low_small : low < 2 ^ min (2 ^ vars) 128) (high_small : high < 2 ^ (2 ^ vars - 128)) → Truth
record_of vars low high few low_small high_small = record { vars = vars; low = low; high = high; few = few; low_small = low_small; high_small = high_small }

proofs_aside : (v a b : ℕ) (p p' : v ≤ 8) (q q' : a < 2 ^ min (2 ^ v) 128) (r r' : b < 2 ^ (2 ^ v - 128)) → record_of v a b p q r ≡ record_of v a b p' q' r'
proofs_aside v a b p p' q q' r r' = ap₂ (λ p q. record_of v a b p q r) (le_prop p p') (le_prop q q') ∙ ap (record_of v a b p' q') (le_prop r r')

pub same_table : (f g : Truth) → f.vars ≡ g.vars → AtEach f.vars (λ xs. value_of f xs ≡ value_of g xs) → f ≡ g
same_table f g e h =
    subst (λ (b : ℕ). (r : b < 2 ^ (2 ^ g.vars - 128)) → f ≡ record_of g.vars g.low b g.few g.low_small r) (same_high f g e h)
    (subst (λ (a : ℕ). (q : a < 2 ^ min (2 ^ g.vars) 128) (r : f.high < 2 ^ (2 ^ g.vars - 128)) → f ≡ record_of g.vars a f.high g.few q r) (same_low f g e h)
    (subst (λ (v : ℕ). (p : v ≤ 8) (q : f.low < 2 ^ min (2 ^ v) 128) (r : f.high < 2 ^ (2 ^ v - 128)) → f ≡ record_of v f.low f.high p q r) e (λ p q r. proofs_aside f.vars f.low f.high f.few p f.low_small q f.high_small r) g.few)
    g.low_small)
    g.high_small
