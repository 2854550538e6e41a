-- Words as functions over leaves.
use Rattle.std.proofs.Common.{◌≡◌, ◌≢◌, ℕ, zero, suc, ◌-◌, ◌^◌, ◌<◌, ◌≤◌, ◌&&◌, nat_eq, Bool, true, false, not, List, [], ◌∷◌, length, get_or, bit_and, refl, sym, ap, ap₂, ◌∙◌, subst, arith}
use Rattle.std.specs.Int.{bit_at, w64}
use Rattle.std.proofs.Math.Nat.{pow-le-pow_right}
use Rattle.std.proofs.lemmas.List.{get_or-map}
use Rattle.std.proofs.lemmas.Nat.Bits.{bit_at-lt, bit_at-zero, bit_at_not}
use Rattle.syn_rows.specs.declared.Lit.{Lit}
use Rattle.syn_rows.specs.declared.Row.{Row}
use Rattle.syn_rows.specs.declared.Row.TheVariants.{And}
use Rattle.syn_rows.specs.Rows.{node_of, row_at, refs_of}
use Rattle.syn_rows.specs.Values.{RowFits, lit_value}
use Rattle.syn_truth.specs.Truth.{minterm_of}
use Rattle.syn_truth.specs.Words.{value_in}
use Rattle.syn_truth.proofs.Minterms.{minterm_below, bit_at-minterm_of}
use Rattle.syn_truth.proofs.Operations.{and_at, set_bit}
use Rattle.syn_rows.specs.Nodes.{has_node}
use Rattle.syn_rows.proofs.Nodes.{has_here, has_there}
use Rattle.syn_cones.specs.Cones.{Refers, FitsAt, FitsBetween, IsCut}
use Rattle.syn_cones.specs.Words.{IsWordOver}
use Rattle.syn_cones.proofs.Walking.{cut_led}

pub minterm_in_word : (xs : List Bool) → length xs ≤ 6 → minterm_of xs < 64
minterm_in_word xs few = omega (arith, minterm_below xs, pow-le-pow_right {n = 2} (omega arith) few)

-- the value of a variable
pub variable_value : (word i : ℕ) (xs : List Bool) → bit_at word (minterm_of xs) ≡ bit_at (minterm_of xs) i → value_in word xs ≡ get_or xs i false
variable_value word i xs same = ap (λ b. nat_eq b 1) (same ∙ bit_at-minterm_of xs i) ∙ set_bit (get_or xs i false)

-- the opposite value
other_bit : (b : ℕ) → b < 2 → nat_eq (1 - b) 1 ≡ not (nat_eq b 1)
other_bit b low = grind arith

pub complement_value : (word : ℕ) (xs : List Bool) → word < 2 ^ 64 → length xs ≤ 6 → value_in (2 ^ 64 - 1 - word) xs ≡ not (value_in word xs)
complement_value word xs fits few =
    ap (λ b. nat_eq b 1) (bit_at_not w64 word (minterm_of xs) fits (minterm_in_word xs few))
    ∙ other_bit (bit_at word (minterm_of xs)) (bit_at-lt word (minterm_of xs))

-- the word of a leaf
pub leaf_word : (rows : List Row) (leaves : List ℕ) (n i word : ℕ) → i < length leaves → length leaves ≤ 6 → get_or leaves i 0 ≡ n
    → ((xs : List Bool) → i < length xs → length xs ≤ 6 → value_in word xs ≡ get_or xs i false) → IsWordOver rows leaves n word
leaf_word rows leaves n i word inside few at values = λ xs len v fits is.
    sym (values xs (omega (arith, len, inside)) (omega (arith, len, few))
    ∙ ap (λ l. get_or l i false) (sym is)
    ∙ get_or-map v leaves i 0 false inside
    ∙ ap v at)

-- the word of the constant
pub constant_word : (rows : List Row) (leaves : List ℕ) (n : ℕ) → n ≡ 0 → has_node leaves n ≡ false → IsWordOver rows leaves n 0
constant_word rows leaves n e f = λ xs len v fits is. constant_value v n e (fits n [] refl f) ∙ sym (ap (λ b. nat_eq b 1) (bit_at-zero (minterm_of xs)))
  where
    constant_value : (v : ℕ → Bool) (n : ℕ) → n ≡ 0 → FitsAt rows v n → v n ≡ false
    constant_value v zero e fits = fits
    constant_value v (suc n) e fits = absurd (omega (arith, e))

-- what an AND that isn't the constant refers to
pub record IsAnd (rows : List Row) (leaves : List ℕ) (n : ℕ) (a b : Lit) : Type 0 where
  pub inner : has_node leaves n ≡ false
  pub first : Refers rows n (node_of a)
  pub second : Refers rows n (node_of b)
  pub value : (v : ℕ → Bool) → FitsAt rows v n → v n ≡ (lit_value v a && lit_value v b)

pub is_and : (rows : List Row) (leaves : List ℕ) (n : ℕ) (a b : Lit) → n ≢ 0 → row_at rows n ≡ And a b → has_node leaves n ≡ false → IsAnd rows leaves n a b
is_and rows leaves zero a b ne row f = absurd (ne refl)
is_and rows leaves (suc n) a b ne row f = record {
  inner = f;
  first = subst (λ r. has_node (refs_of r) (node_of a) ≡ true) (sym row) (has_here (node_of a) (node_of b ∷ []));
  second = subst (λ r. has_node (refs_of r) (node_of b) ≡ true) (sym row) (has_there (node_of a) (node_of b) (node_of b ∷ []) (has_here (node_of b) []));
  value = λ v fits. subst (λ r. RowFits v (suc n) r) row fits;
}

-- a cut of a node that isn't a leaf is a cut of what it refers to
pub cut_of_fan_in : (rows : List Row) (leaves : List ℕ) (n m : ℕ) → IsCut rows leaves n → has_node leaves n ≡ false → Refers rows n m → IsCut rows leaves m
cut_of_fan_in rows leaves n m cut f r = cut_led rows leaves n (m ∷ []) m cut (f, r, refl)

fits_fan_in : (rows : List Row) (leaves : List ℕ) (n m : ℕ) (v : ℕ → Bool) → has_node leaves n ≡ false → Refers rows n m → FitsBetween rows leaves n v → FitsBetween rows leaves m v
fits_fan_in rows leaves n m v f r fits = λ k path led inner. fits k (m ∷ path) (f, r, led) inner

-- the word of an AND, from those of its fan-ins
pub and_word : (rows : List Row) (leaves : List ℕ) (n : ℕ) (a b : Lit) (x y p q : ℕ) → length leaves ≤ 6 → IsAnd rows leaves n a b → IsWordOver rows leaves (node_of a) x → IsWordOver rows leaves (node_of b) y
    → ((v : ℕ → Bool) (xs : List Bool) → length xs ≤ 6 → v (node_of a) ≡ value_in x xs → lit_value v a ≡ value_in p xs)
    → ((v : ℕ → Bool) (xs : List Bool) → length xs ≤ 6 → v (node_of b) ≡ value_in y xs → lit_value v b ≡ value_in q xs) → IsWordOver rows leaves n (bit_and p q)
and_word rows leaves n a b x y p q few is first second left right = λ xs len v fits at.
    let small : length xs ≤ 6 = omega (arith, len, few) in
    is.value v (fits n [] refl is.inner)
    ∙ ap₂ (λ (s t : Bool). s && t)
    (left v xs small (first xs len v (fits_fan_in rows leaves n (node_of a) v is.inner is.first fits) at))
    (right v xs small (second xs len v (fits_fan_in rows leaves n (node_of b) v is.inner is.second fits) at))
    ∙ sym (and_at p q (minterm_of xs))
