-- The values of nodes and literals over leaves, and tables that have them.
use Rattle.std.proofs.Common.{◌≡◌, ℕ, ◌+◌, ◌-◌, ◌*◌, ◌/◌, ◌%◌, ◌<◌, ◌==◌, ◌&&◌, nat_eq, not, if◌then◌else◌, Bool, true, false, List, [], ◌∷◌, length, get_or, refl, sym, ap, ap₂, ◌∙◌, inl, inr, arith}
use Rattle.std.specs.Bool.{beq}
use Rattle.std.proofs.lemmas.Bool.{both_ways, cases_Bool, cond-false, cond-true, or_cases}
use Rattle.syn_rows.specs.declared.Lit.{Lit}
use Rattle.syn_rows.specs.declared.Row.{Row}
use Rattle.syn_rows.specs.declared.Row.TheVariants.{And}
use Rattle.syn_rows.specs.Joining.{complement, lit_of}
use Rattle.syn_rows.specs.Nodes.{has_node}
use Rattle.syn_rows.specs.Rows.{InOrder, node_of, row_at}
use Rattle.syn_rows.specs.Values.{row_value, value_in}
use Rattle.syn_rows.proofs.JoinLaws.{same_lit}
use Rattle.syn_rows.proofs.Folds.{IsLocal, fold_step, row_value-local}
use Rattle.syn_truth.specs.declared.Truth.{Truth}
use Rattle.syn_truth.specs.Truth.{AtEach, holds_at_each, value_of}
use Rattle.syn_truth.proofs.Each.{each_same, equal_test}
use Rattle.syn_cones.specs.Values.{leaf_value, row_value_over, value_over, values_over}
use Rattle.syn_resub.specs.Divided.{HasValues, lit_over}
use Rattle.syn_resub.specs.Resubstitution.{place_of}
use Rattle.syn_resub.proofs.Places.{place_here, place_there}

-- what a row gives its node

over-local : (leaves : List ℕ) (xs : List Bool) → IsLocal (row_value_over leaves xs)
over-local leaves xs f g n row h = ap (λ (b : Bool). if has_node leaves n then leaf_value leaves xs n else b) (row_value-local (λ _. false) f g n row h)

over_step : (rows : List Row) (leaves : List ℕ) (xs : List Bool) → InOrder rows → (n : ℕ) → n < length rows
    → value_over rows leaves n xs ≡ row_value_over leaves xs (value_in (values_over rows leaves xs)) n (row_at rows n)
over_step rows leaves xs order n lt = fold_step (row_value_over leaves xs) false (over-local leaves xs) [] rows n n (omega arith) lt (order n)

leaf_at : (leaves : List ℕ) (xs : List Bool) (n : ℕ) → has_node leaves n ≡ true → length xs ≡ length leaves → leaf_value leaves xs n ≡ get_or xs (place_of n leaves) false
leaf_at [] xs n h long = absurd (both_ways false refl h)
leaf_at (m ∷ ms) [] n h long = absurd (omega (arith, long))
leaf_at (m ∷ ms) (x ∷ xs) n h long = elim (cases_Bool (nat_eq m n)) [
  | inl e ↦ cond-true (nat_eq m n) x (leaf_value ms xs n) e ∙ sym (ap (λ p. get_or (x ∷ xs) p false) (place_here n m ms e))
  | inr e ↦
      cond-false (nat_eq m n) x (leaf_value ms xs n) e
      ∙ leaf_at ms xs n (elim (or_cases (nat_eq m n) (has_node ms n) h) [ inl same ↦ absurd (both_ways (nat_eq m n) e same) | inr t ↦ t ]) (omega (arith, long))
      ∙ sym (ap (λ p. get_or (x ∷ xs) p false) (place_there n m ms e))
]

-- a leaf has its own value
pub value_of_leaf : (rows : List Row) (leaves : List ℕ) (n : ℕ) (xs : List Bool) → InOrder rows → n < length rows → has_node leaves n ≡ true → length xs ≡ length leaves
    → value_over rows leaves n xs ≡ get_or xs (place_of n leaves) false
value_of_leaf rows leaves n xs order lt leaf long =
    over_step rows leaves xs order n lt
    ∙ cond-true (has_node leaves n) (leaf_value leaves xs n) (row_value (λ _. false) (value_in (values_over rows leaves xs)) n (row_at rows n)) leaf
    ∙ leaf_at leaves xs n leaf long

-- an AND that isn't a leaf has that of its two literals
pub value_of_and : (rows : List Row) (leaves : List ℕ) (n : ℕ) (a b : Lit) (xs : List Bool) → InOrder rows → n < length rows → has_node leaves n ≡ false → row_at rows n ≡ And a b
    → value_over rows leaves n xs ≡ (lit_over rows leaves a xs && lit_over rows leaves b xs)
value_of_and rows leaves n a b xs order lt inner is =
    over_step rows leaves xs order n lt
    ∙ cond-false (has_node leaves n) (leaf_value leaves xs n) (row_value (λ _. false) (value_in (values_over rows leaves xs)) n (row_at rows n)) inner
    ∙ ap (row_value (λ _. false) (value_in (values_over rows leaves xs)) n) is

-- literals

pub lit_plain : (rows : List Row) (leaves : List ℕ) (l : Lit) (xs : List Bool) → l.0 % 2 ≡ 0 → lit_over rows leaves l xs ≡ value_over rows leaves (node_of l) xs
lit_plain rows leaves l xs even = cond-true (l.0 % 2 == 0) (value_over rows leaves (node_of l) xs) (not (value_over rows leaves (node_of l) xs)) (ap (λ k. nat_eq k 0) even)

pub lit_complemented : (rows : List Row) (leaves : List ℕ) (l : Lit) (xs : List Bool) → l.0 % 2 ≡ 1 → lit_over rows leaves l xs ≡ not (value_over rows leaves (node_of l) xs)
lit_complemented rows leaves l xs odd = cond-false (l.0 % 2 == 0) (value_over rows leaves (node_of l) xs) (not (value_over rows leaves (node_of l) xs)) (ap (λ k. nat_eq k 0) odd)

-- tables

pub values_again : (n : ℕ) (t : Truth) (f g : List Bool → Bool) → AtEach n (λ xs. f xs ≡ g xs) → HasValues n t f → HasValues n t g
values_again n t f g same has = record { vars = has.vars; each = λ xs long. has.each xs long ∙ same xs long }

pub values_not : (n : ℕ) (t u : Truth) (f : List Bool → Bool) → u.vars ≡ t.vars → AtEach t.vars (λ xs. value_of u xs ≡ not (value_of t xs)) → HasValues n t f → HasValues n u (λ xs. not (f xs))
values_not n t u f vars each has = record { vars = vars ∙ has.vars; each = λ xs long. each xs (long ∙ sym has.vars) ∙ ap not (has.each xs long) }

pub values_and : (n : ℕ) (t u w : Truth) (f g : List Bool → Bool) → w.vars ≡ t.vars → AtEach t.vars (λ xs. value_of w xs ≡ (value_of t xs && value_of u xs)) → HasValues n t f → HasValues n u g → HasValues n w (λ xs. f xs && g xs)
values_and n t u w f g vars each has_t has_u = record {
  vars = vars ∙ has_t.vars;
  each = λ xs long. each xs (long ∙ sym has_t.vars) ∙ ap₂ (λ a b. a && b) (has_t.each xs long) (has_u.each xs long);
}

-- equal tables have equal values
pub same_tables : (n : ℕ) (t u : Truth) (f g : List Bool → Bool) → HasValues n t f → HasValues n u g
    → (nat_eq t.vars u.vars && (nat_eq t.low u.low && nat_eq t.high u.high)) ≡ holds_at_each n (λ xs. beq (f xs) (g xs))
same_tables n t u f g has_t has_u =
    equal_test t u (has_t.vars ∙ sym has_u.vars)
    ∙ ap (λ k. holds_at_each k (λ xs. beq (value_of t xs) (value_of u xs))) has_t.vars
    ∙ each_same n (λ xs. beq (value_of t xs) (value_of u xs)) (λ xs. beq (f xs) (g xs)) (λ xs long. ap₂ beq (has_t.each xs long) (has_u.each xs long))

-- both literals of a node

pub complement_is : (d : ℕ) → complement (lit_of d) ≡ record { 0 = 2 * d + 1 }
complement_is d = same_lit (complement (lit_of d)) (record { 0 = 2 * d + 1 }) (cond-true ((2 * d) % 2 == 0) (2 * d + 1) (2 * d - 1) (ap (λ k. nat_eq k 0) (let even : (2 * d) % 2 ≡ 0 = omega arith in even)))

pub lit_of_over : (rows : List Row) (leaves : List ℕ) (d : ℕ) (xs : List Bool) → lit_over rows leaves (lit_of d) xs ≡ value_over rows leaves d xs
lit_of_over rows leaves d xs = lit_plain rows leaves (lit_of d) xs (omega arith) ∙ ap (λ n. value_over rows leaves n xs) (let half : (2 * d) / 2 ≡ d = omega arith in half)

complement_over : (rows : List Row) (leaves : List ℕ) (d : ℕ) (xs : List Bool) → lit_over rows leaves (complement (lit_of d)) xs ≡ not (value_over rows leaves d xs)
complement_over rows leaves d xs =
    ap (λ l. lit_over rows leaves l xs) (complement_is d)
    ∙ lit_complemented rows leaves (record { 0 = 2 * d + 1 }) xs (omega arith)
    ∙ ap (λ n. not (value_over rows leaves n xs)) (let half : (2 * d + 1) / 2 ≡ d = omega arith in half)

-- the opposite of a plain literal, with the opposite table
pub opposite_lit : (l m : Lit) (d : ℕ) → l ≡ lit_of d → m.0 ≡ (if l.0 % 2 == 0 then l.0 + 1 else l.0 - 1) → m ≡ complement (lit_of d)
opposite_lit l m d is opposite = same_lit m (complement l) opposite ∙ ap complement is

pub opposite_has : (rows : List Row) (leaves : List ℕ) (n d : ℕ) (t u : Truth) (l m : Lit) → l ≡ lit_of d → m ≡ complement (lit_of d) → u.vars ≡ t.vars → AtEach t.vars (λ xs. value_of u xs ≡ not (value_of t xs))
    → HasValues n t (lit_over rows leaves l) → HasValues n u (lit_over rows leaves m)
opposite_has rows leaves n d t u l m plain opposite vars each has =
    values_again n u (λ xs. not (lit_over rows leaves l xs)) (lit_over rows leaves m)
    (λ xs long. ap (λ k. not (lit_over rows leaves k xs)) plain ∙ ap not (lit_of_over rows leaves d xs) ∙ sym (ap (λ k. lit_over rows leaves k xs) opposite ∙ complement_over rows leaves d xs))
    (values_not n t u (lit_over rows leaves l) vars each has)

-- a table that is the same at each list is that of the constant
pub constant_has : (n : ℕ) (t : Truth) (x : Bool) → t.vars ≡ n → AtEach t.vars (λ xs. value_of t xs ≡ x) → HasValues n t (λ xs. x)
constant_has n t x vars each = record { vars = vars; each = λ xs long. each xs (long ∙ sym vars) }
