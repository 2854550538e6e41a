-- The AND rules give the value of the AND.
use Rattle.std.proofs.Common.{◌≡◌, ◌≢◌, ℕ, ◌+◌, ◌-◌, ◌*◌, ◌/◌, ◌%◌, ◌≤◌, ◌&&◌, ◌||◌, ◌==◌, nat_eq, nat_lt, if◌then◌else◌, not, Bool, true, false, IfSome, Option, Some, None, refl, sym, ap, ap₂, ◌∙◌, arith, inl, inr, ◌⊎◌}
use Rattle.std.proofs.lemmas.Bool.{cases_Bool, and_parts, and_from, or_cases, or_left, or_right, cond_both, cond-true, cond-false, eqb-true, eqb-false, eq-eqb, ne_eqb}
use Rattle.syn_rows.specs.declared.Lit.{Lit}
use Rattle.syn_rows.specs.declared.Row.TheVariants.{Free, Source, And, Alias}
use Rattle.syn_rows.specs.Rows.{node_of, AllRefs}
use Rattle.syn_rows.specs.Values.{lit_value}
use Rattle.syn_rows.specs.Joining.{constant, lit_of, complement, simple_and, same_pair, is_and_of, ordered_and, SimpleAndIsAnd, RowOfPairIsAnd, OrderedAndIsRowOfPair}

-- whatever holds in each case of the AND rules holds of what they give
pub simple_by : (P : Option Lit → Type 0) (x y : Lit)
    → (x.0 ≡ y.0 → P (Some x)) → (x.0 ≢ y.0 → node_of x ≡ node_of y → P (Some constant)) → ((x.0 ≡ 0) ⊎ (y.0 ≡ 0) → P (Some constant))
    → (x.0 ≡ 1 → P (Some y)) → (y.0 ≡ 1 → P (Some x)) → (node_of x ≢ node_of y → 2 ≤ x.0 → 2 ≤ y.0 → P None)
    → P (simple_and x y)
simple_by P x y same opposite zeros left right none =
    cond_both (x.0 == y.0) (Some x) rest₁ P (λ e. same (eqb-true x.0 y.0 e)) (λ ne.
    cond_both (node_of x == node_of y) (Some constant) rest₂ P (λ e. opposite (eqb-false x.0 y.0 ne) (eqb-true (node_of x) (node_of y) e)) (λ apart.
    cond_both (x.0 == 0 || y.0 == 0) (Some constant) rest₃ P (λ e. zeros (elim (or_cases (x.0 == 0) (y.0 == 0) e) [ inl a ↦ inl (eqb-true x.0 0 a) | inr b ↦ inr (eqb-true y.0 0 b) ])) (λ some.
    cond_both (x.0 == 1) (Some y) rest₄ P (λ e. left (eqb-true x.0 1 e)) (λ first.
    cond_both (y.0 == 1) (Some x) None P (λ e. right (eqb-true y.0 1 e)) (λ second.
    none (eqb-false (node_of x) (node_of y) apart) (two x.0 (no_first x.0 y.0 some) (eqb-false x.0 1 first)) (two y.0 (no_second x.0 y.0 some) (eqb-false y.0 1 second)))))))
  where
    rest₄ : Option Lit
    rest₄ = if y.0 == 1 then Some x else None

    rest₃ : Option Lit
    rest₃ = if x.0 == 1 then Some y else rest₄

    rest₂ : Option Lit
    rest₂ = if x.0 == 0 || y.0 == 0 then Some constant else rest₃

    rest₁ : Option Lit
    rest₁ = if node_of x == node_of y then Some constant else rest₂

    no_first : (a b : ℕ) → (a == 0 || b == 0) ≡ false → a ≢ 0
    no_first a b h e = absurd (cc (eq-eqb a 0 e, h))

    no_second : (a b : ℕ) → (a == 0 || b == 0) ≡ false → b ≢ 0
    no_second a b h e = elim (cases_Bool (a == 0)) [
      | inl t ↦ absurd (cc (t, h))
      | inr f ↦ absurd (cc (f, eq-eqb b 0 e, h))
    ]

    two : (a : ℕ) → a ≢ 0 → a ≢ 1 → 2 ≤ a
    two a nonzero other = omega arith

-- two literals that need a row
pub record NeedRow (x y : Lit) : Type 0 where
  pub apart : node_of x ≢ node_of y
  pub first : 2 ≤ x.0
  pub second : 2 ≤ y.0

pub none_needs : (x y : Lit) → simple_and x y ≡ None → NeedRow x y
none_needs x y =
    simple_by (λ o. o ≡ None → NeedRow x y) x y (λ _ h. absurd (cc)) (λ _ _ h. absurd (cc)) (λ _ h. absurd (cc)) (λ _ h. absurd (cc)) (λ _ h. absurd (cc))
    (λ apart first second h. record { apart = apart; first = first; second = second })

pub needs_none : (x y : Lit) → NeedRow x y → simple_and x y ≡ None
needs_none x y n =
    simple_by (λ o. o ≡ None) x y (λ e. absurd (n.apart (ap (λ (k : ℕ). k / 2) e))) (λ _ e. absurd (n.apart e)) (λ z. absurd (zero_case z)) (λ e. absurd (omega (arith, n.first))) (λ e. absurd (omega (arith, n.second))) (λ _ _ _. refl)
  where
    zero_case : (x.0 ≡ 0) ⊎ (y.0 ≡ 0) → ⊥
    zero_case (inl e) = omega (arith, n.first)
    zero_case (inr e) = omega (arith, n.second)

pub same_lit : (x a : Lit) → x.0 ≡ a.0 → x ≡ a
same_lit x a e = ap (λ (n : ℕ). the_lit n) e
  where
    the_lit : ℕ → Lit
    the_lit n = record { 0 = n }

pub pair_cases : (x y a b : Lit) → same_pair x y a b ≡ true → ((x ≡ a) × (y ≡ b)) ⊎ ((x ≡ b) × (y ≡ a))
pair_cases x y a b h = elim (or_cases (x.0 == a.0 && y.0 == b.0) (x.0 == b.0 && y.0 == a.0) h) [
  | inl s ↦ let parts = and_parts (x.0 == a.0) (y.0 == b.0) s in inl (same_lit x a (eqb-true x.0 a.0 parts.0), same_lit y b (eqb-true y.0 b.0 parts.1))
  | inr s ↦ let parts = and_parts (x.0 == b.0) (y.0 == a.0) s in inr (same_lit x b (eqb-true x.0 b.0 parts.0), same_lit y a (eqb-true y.0 a.0 parts.1))
]

pub complement_node : (l : Lit) → node_of (complement l) ≡ node_of l
complement_node l =
    cond_both (l.0 % 2 == 0) (l.0 + 1) (l.0 - 1) (λ k. k / 2 ≡ l.0 / 2)
    (λ e. let even : l.0 % 2 ≡ 0 = eqb-true (l.0 % 2) 0 e in omega arith)
    (λ e. let odd : l.0 % 2 ≡ 1 = omega (arith, eqb-false (l.0 % 2) 0 e) in omega arith)

pub ordered_refs : (P : ℕ → Type 0) (x y : Lit) → P (node_of x) → P (node_of y) → AllRefs P (ordered_and x y)
ordered_refs P x y px py = cond_both (nat_lt x.0 y.0) (And x y) (And y x) (AllRefs P) (λ _. (px, py)) (λ _. (py, px))

-- values

not_not : (b : Bool) → not (not b) ≡ b
not_not true = refl
not_not false = refl

pub even_value : (w : ℕ → Bool) (l : Lit) → l.0 % 2 ≡ 0 → lit_value w l ≡ w (node_of l)
even_value w l e = cond-true (nat_eq (l.0 % 2) 0) (w (node_of l)) (not (w (node_of l))) (eq-eqb (l.0 % 2) 0 e)

pub odd_value : (w : ℕ → Bool) (l : Lit) → l.0 % 2 ≡ 1 → lit_value w l ≡ not (w (node_of l))
odd_value w l e = cond-false (nat_eq (l.0 % 2) 0) (w (node_of l)) (not (w (node_of l))) (ne_eqb (l.0 % 2) 0 (λ z. omega arith))

pub plain_value : (w : ℕ → Bool) (n : ℕ) → lit_value w (lit_of n) ≡ w n
plain_value w n = let half : (2 * n) / 2 ≡ n = omega arith in even_value w (lit_of n) (omega arith) ∙ ap w half

pub complement_value : (w : ℕ → Bool) (l : Lit) → lit_value w (complement l) ≡ not (lit_value w l)
complement_value w l = elim (cases_Bool (nat_eq (l.0 % 2) 0)) [
  | inl t ↦
      let even : l.0 % 2 ≡ 0 = eqb-true (l.0 % 2) 0 t in
      let up : (complement l).0 ≡ l.0 + 1 = cond-true (nat_eq (l.0 % 2) 0) (l.0 + 1) (l.0 - 1) t in
      odd_value w (complement l) (omega arith) ∙ ap (λ n. not (w n)) (complement_node l) ∙ ap not (sym (even_value w l even))
  | inr f ↦
      let odd : l.0 % 2 ≡ 1 = omega (arith, eqb-false (l.0 % 2) 0 f) in
      let down : (complement l).0 ≡ l.0 - 1 = cond-false (nat_eq (l.0 % 2) 0) (l.0 + 1) (l.0 - 1) f in
      even_value w (complement l) (omega arith) ∙ ap w (complement_node l) ∙ sym (ap not (odd_value w l odd) ∙ not_not (w (node_of l)))
]

-- a literal of the same node, with another number, has the opposite value
pub opposite_value : (w : ℕ → Bool) (x y : Lit) → x.0 ≢ y.0 → node_of x ≡ node_of y → lit_value w y ≡ not (lit_value w x)
opposite_value w x y ne same = ap (lit_value w) (same_lit y (complement x) is) ∙ complement_value w x
  where
    is : y.0 ≡ (complement x).0
    is = elim (cases_Bool (nat_eq (x.0 % 2) 0)) [
      | inl t ↦ let even : x.0 % 2 ≡ 0 = eqb-true (x.0 % 2) 0 t in let up : (complement x).0 ≡ x.0 + 1 = cond-true (nat_eq (x.0 % 2) 0) (x.0 + 1) (x.0 - 1) t in omega arith
      | inr f ↦ let odd : x.0 % 2 ≡ 1 = omega (arith, eqb-false (x.0 % 2) 0 f) in let down : (complement x).0 ≡ x.0 - 1 = cond-false (nat_eq (x.0 % 2) 0) (x.0 + 1) (x.0 - 1) f in omega arith
    ]

pub and_turned : (a b : Bool) → (a && b) ≡ (b && a)
and_turned true true = refl
and_turned true false = refl
and_turned false true = refl
and_turned false false = refl

and_same : (a : Bool) → a ≡ (a && a)
and_same true = refl
and_same false = refl

and_opposite : (a b : Bool) → b ≡ not a → false ≡ (a && b)
and_opposite true b h = sym h
and_opposite false b h = refl

zero_value : (w : ℕ → Bool) (x y : Lit) → w 0 ≡ false → (x.0 ≡ 0) ⊎ (y.0 ≡ 0) → false ≡ (lit_value w x && lit_value w y)
zero_value w x y at_0 (inl e) = sym (ap (λ l. lit_value w l && lit_value w y) (same_lit x constant e) ∙ ap (λ b. b && lit_value w y) at_0)
zero_value w x y at_0 (inr e) = sym (and_turned (lit_value w x) (lit_value w y) ∙ ap (λ l. lit_value w l && lit_value w x) (same_lit y constant e) ∙ ap (λ b. b && lit_value w x) at_0)

-- with a 1 the AND is the other literal
one_left : (w : ℕ → Bool) (x y : Lit) → w 0 ≡ false → x.0 ≡ 1 → lit_value w y ≡ (lit_value w x && lit_value w y)
one_left w x y at_0 e = sym (ap (λ l. lit_value w l && lit_value w y) (same_lit x (record { 0 = 1 }) e) ∙ ap (λ b. not b && lit_value w y) at_0)

pub simple_and_is : SimpleAndIsAnd
simple_and_is v x y at_0 =
    simple_by (λ o. IfSome o (λ l. lit_value v l ≡ (lit_value v x && lit_value v y))) x y
    (λ e. and_same (lit_value v x) ∙ ap (λ l. lit_value v x && lit_value v l) (same_lit x y e))
    (λ ne same. at_0 ∙ and_opposite (lit_value v x) (lit_value v y) (opposite_value v x y ne same))
    (λ z. at_0 ∙ zero_value v x y at_0 z)
    (λ e. one_left v x y at_0 e)
    (λ e. one_left v y x at_0 e ∙ and_turned (lit_value v y) (lit_value v x))
    (λ _ _ _. tt)

pub row_of_pair_is : RowOfPairIsAnd
row_of_pair_is v n x y Free h = absurd (cc)
row_of_pair_is v n x y Source h = absurd (cc)
row_of_pair_is v n x y (Alias a) h = absurd (cc)
row_of_pair_is v n x y (And a b) h = (λ fits. fits ∙ sym same, λ e. e ∙ same)
  where
    same : (lit_value v x && lit_value v y) ≡ (lit_value v a && lit_value v b)
    same = elim (pair_cases x y a b h) [
      | inl e ↦ ap₂ (λ s t. lit_value v s && lit_value v t) e.0 e.1
      | inr e ↦ ap₂ (λ s t. lit_value v s && lit_value v t) e.0 e.1 ∙ and_turned (lit_value v b) (lit_value v a)
    ]

pub ordered_and_is : OrderedAndIsRowOfPair
ordered_and_is x y = cond_both (nat_lt x.0 y.0) (And x y) (And y x) (λ row. is_and_of x y row ≡ true)
    (λ _. or_left (x.0 == x.0 && y.0 == y.0) (x.0 == y.0 && y.0 == x.0) (and_from (x.0 == x.0) (y.0 == y.0) (eq-eqb x.0 x.0 refl) (eq-eqb y.0 y.0 refl)))
    (λ _. or_right (x.0 == y.0 && y.0 == x.0) (x.0 == x.0 && y.0 == y.0) (and_from (x.0 == x.0) (y.0 == y.0) (eq-eqb x.0 x.0 refl) (eq-eqb y.0 y.0 refl)))
