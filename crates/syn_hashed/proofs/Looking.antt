-- The row of a pair that an index finds is the one that the AND rules look for, and what the rules give then.
use Rattle.std.proofs.Common.{◌≡◌, ◌≢◌, ℕ, zero, suc, ◌*◌, ◌/◌, ◌<◌, ◌≤◌, ◌&&◌, ◌||◌, ◌==◌, if◌then◌else◌, not, nat_eq, nat_lt, nat_le, Bool, true, false, List, [], ◌∷◌, ◌++◌, length, Option, Some, None, refl, sym, ap, ap₂, ◌∙◌, subst, arith, inl, inr}
use Rattle.std.proofs.lemmas.Bool.{cases_Bool, cases_lt, cases_eq, cond_both, cond-true, cond-false, eq-eqb, eqb-false, lt-ltb, ltb-true, leb-true, and_parts, not-true}
use Rattle.std.proofs.lemmas.List.{get_or_past}
use Rattle.syn_rows.specs.declared.Lit.{Lit}
use Rattle.syn_rows.specs.declared.Row.{Row}
use Rattle.syn_rows.specs.declared.Row.TheVariants.{Free, Source, And, Alias}
use Rattle.syn_rows.specs.Rows.{node_of, row_at}
use Rattle.syn_rows.specs.Joining.{lit_of, simple_and, same_pair, is_and_of, ordered_and}
use Rattle.syn_rows.proofs.JoinLaws.{NeedRow, needs_none, none_needs, pair_cases, same_lit}
use Rattle.syn_hashed.specs.Hashed.{is_gate, IsHashed}
use Rattle.syn_hashed.specs.Joined.{PairsOnce, or_else, literal_below, literal_there, lit_or_new, rows_or_new, joined_lit, joined_rows}

-- the two orders of a pair

turned_or : (p q : Bool) → (p || q) ≡ (q || p)
turned_or true true = refl
turned_or true false = refl
turned_or false true = refl
turned_or false false = refl

turned_and : (p q : Bool) → (p && q) ≡ (q && p)
turned_and true true = refl
turned_and true false = refl
turned_and false true = refl
turned_and false false = refl

pub second_turned : (x y a b : Lit) → same_pair x y b a ≡ same_pair x y a b
second_turned x y a b = turned_or (x.0 == b.0 && y.0 == a.0) (x.0 == a.0 && y.0 == b.0)

pub first_turned : (x y a b : Lit) → same_pair y x a b ≡ same_pair x y a b
first_turned x y a b =
    ap₂ (λ p q. p || q) (turned_and (y.0 == a.0) (x.0 == b.0)) (turned_and (y.0 == b.0) (x.0 == a.0))
    ∙ turned_or (x.0 == b.0 && y.0 == a.0) (x.0 == a.0 && y.0 == b.0)

turned_row : (x y : Lit) (row : Row) → is_and_of y x row ≡ is_and_of x y row
turned_row x y Free = refl
turned_row x y Source = refl
turned_row x y (And a b) = first_turned x y a b
turned_row x y (Alias a) = refl

pub same_rows : (x y a b : Lit) → same_pair x y a b ≡ true → (row : Row) → is_and_of x y row ≡ is_and_of a b row
same_rows x y a b h row = elim (pair_cases x y a b h) [
  | inl e ↦ ap₂ (λ s t. is_and_of s t row) e.0 e.1
  | inr e ↦ ap₂ (λ s t. is_and_of s t row) e.0 e.1 ∙ turned_row a b row
]

pub same_needs : (x y a b : Lit) → same_pair x y a b ≡ true → simple_and x y ≡ None → simple_and a b ≡ None
same_needs x y a b h none = elim (pair_cases x y a b h) [
  | inl e ↦ subst (λ t. simple_and a t ≡ None) e.1 (subst (λ s. simple_and s y ≡ None) e.0 none)
  | inr e ↦
      let n = none_needs x y none in
      let m : NeedRow y x = record { apart = λ q. n.apart (sym q); first = n.second; second = n.first } in
      subst (λ t. simple_and a t ≡ None) e.0 (subst (λ s. simple_and s x ≡ None) e.1 (needs_none y x m))
]

pub ordered_is : (x y a b : Lit) → is_and_of x y (ordered_and a b) ≡ same_pair x y a b
ordered_is x y a b = cond_both (nat_lt a.0 b.0) (And a b) (And b a) (λ row. is_and_of x y row ≡ same_pair x y a b) (λ _. refl) (λ _. second_turned x y a b)

pub same_below : (rows : List Row) (n : ℕ) (x y a b : Lit) → same_pair x y a b ≡ true → literal_below rows n x y ≡ literal_below rows n a b
same_below rows zero x y a b h = refl
same_below rows (suc n) x y a b h = ap₂ (λ t o. if t then Some (lit_of n) else o) (same_rows x y a b h (row_at rows n)) (same_below rows n x y a b h)

-- the row that is found

pair_row : (x y : Lit) (row : Row) → ((a b : Lit) → row ≡ And a b → a.0 < b.0) → is_and_of x y row ≡ true → row ≡ ordered_and x y
pair_row x y Free rising h = absurd (cc)
pair_row x y Source rising h = absurd (cc)
pair_row x y (Alias a) rising h = absurd (cc)
pair_row x y (And a b) rising h =
    let less = rising a b refl in
    elim (pair_cases x y a b h) [
      | inl e ↦ sym (ap₂ ordered_and e.0 e.1 ∙ cond-true (nat_lt a.0 b.0) (And a b) (And b a) (lt-ltb a.0 b.0 less))
      | inr e ↦ sym (ap₂ ordered_and e.0 e.1 ∙ turned less)
    ]
  where
    turned : a.0 < b.0 → ordered_and b a ≡ And a b
    turned less = elim (cases_Bool (nat_lt b.0 a.0)) [
      | inl t ↦ let more : b.0 < a.0 = ltb-true b.0 a.0 t in absurd (omega arith)
      | inr f ↦ cond-false (nat_lt b.0 a.0) (And b a) (And a b) f
    ]

pub is_ordered : (rows : List Row) → PairsOnce rows → (x y : Lit) (k : ℕ) → is_and_of x y (row_at rows k) ≡ true → row_at rows k ≡ ordered_and x y
is_ordered rows p x y k h = pair_row x y (row_at rows k) (p.ordered k) h

pub pair_itself : (x y : Lit) → same_pair x y x y ≡ true
pair_itself x y = ap₂ (λ s t. (s && t) || (x.0 == y.0 && y.0 == x.0)) (eq-eqb x.0 x.0 refl) (eq-eqb y.0 y.0 refl)

has_pair : (rows : List Row) (x y : Lit) (n : ℕ) → row_at rows n ≡ ordered_and x y → is_and_of x y (row_at rows n) ≡ true
has_pair rows x y n e = ap (is_and_of x y) e ∙ ordered_is x y x y ∙ pair_itself x y

literal_none : (rows : List Row) (bound : ℕ) (x y : Lit) → ((k : ℕ) → k < bound → is_and_of x y (row_at rows k) ≡ true → ⊥) → literal_below rows bound x y ≡ None
literal_none rows zero x y no_row = refl
literal_none rows (suc b) x y no_row = elim (cases_Bool (is_and_of x y (row_at rows b))) [
  | inl t ↦ absurd (no_row b (omega arith) t)
  | inr f ↦ cond-false (is_and_of x y (row_at rows b)) (Some (lit_of b)) (literal_below rows b x y) f ∙ literal_none rows b x y (λ k lt. no_row k (omega arith))
]

literal_some : (rows : List Row) (bound n : ℕ) (x y : Lit) → n < bound → is_and_of x y (row_at rows n) ≡ true → ((k : ℕ) → is_and_of x y (row_at rows k) ≡ true → k ≡ n)
    → literal_below rows bound x y ≡ Some (lit_of n)
literal_some rows zero n x y lt here only = absurd (omega arith)
literal_some rows (suc b) n x y lt here only = elim (cases_Bool (is_and_of x y (row_at rows b))) [
  | inl t ↦ cond-true (is_and_of x y (row_at rows b)) (Some (lit_of b)) (literal_below rows b x y) t ∙ ap (λ k. Some (lit_of k)) (only b t)
  | inr f ↦ cond-false (is_and_of x y (row_at rows b)) (Some (lit_of b)) (literal_below rows b x y) f
      ∙ literal_some rows b n x y (omega (arith, other f)) here only
]
  where
    other : is_and_of x y (row_at rows b) ≡ false → n ≢ b
    other f e = absurd (cc (here, f, ap (λ k. is_and_of x y (row_at rows k)) e))

one_row : (rows : List Row) → PairsOnce rows → (x y : Lit) (n : ℕ) → row_at rows n ≡ ordered_and x y → (k : ℕ) → is_and_of x y (row_at rows k) ≡ true → k ≡ n
one_row rows p x y n e k h = same (row_at rows k) refl (is_ordered rows p x y k h) h
  where
    same : (row : Row) → row ≡ row_at rows k → row_at rows k ≡ ordered_and x y → is_and_of x y (row_at rows k) ≡ true → k ≡ n
    same Free is o t = absurd (cc (t, ap (is_and_of x y) is))
    same Source is o t = absurd (cc (t, ap (is_and_of x y) is))
    same (Alias a) is o t = absurd (cc (t, ap (is_and_of x y) is))
    same (And a b) is o t = p.once k n a b (sym is) (e ∙ sym o ∙ sym is)

pub found_below : (rows : List Row) → PairsOnce rows → (root : ℕ) (x y : Lit) (n : ℕ) → row_at rows n ≡ ordered_and x y → n < root → (l : Lit) → l.0 ≡ 2 * n → Some l ≡ literal_below rows root x y
found_below rows p root x y n e lt l at =
    ap (λ (k : ℕ). Some (the_lit k)) at ∙ sym (literal_some rows root n x y lt (has_pair rows x y n e) (one_row rows p x y n e))
  where
    the_lit : ℕ → Lit
    the_lit k = record { 0 = k }

pub found_above : (rows : List Row) → PairsOnce rows → (root : ℕ) (x y : Lit) (n : ℕ) → row_at rows n ≡ ordered_and x y → root ≤ n → None ≡ literal_below rows root x y
found_above rows p root x y n e ge =
    sym (literal_none rows root x y (λ k lt h. let same : k ≡ n = one_row rows p x y n e k h in omega arith))

pub found_nowhere : (rows : List Row) → PairsOnce rows → (root : ℕ) (x y : Lit) → ((n : ℕ) → row_at rows n ≡ ordered_and x y → ⊥) → None ≡ literal_below rows root x y
found_nowhere rows p root x y no_row = sym (literal_none rows root x y (λ k lt h. no_row k (is_ordered rows p x y k h)))

-- hashed rows

gate_rises : (n : ℕ) (a b : Lit) → is_gate n (And a b) ≡ true → a.0 < b.0
gate_rises n a b h =
    let low = and_parts (nat_le 2 a.0) (nat_lt a.0 b.0 && (not (nat_eq (node_of a) (node_of b)) && nat_lt (node_of b) n)) h in
    ltb-true a.0 b.0 (and_parts (nat_lt a.0 b.0) (not (nat_eq (node_of a) (node_of b)) && nat_lt (node_of b) n) low.1).0

pub gate_needs : (n : ℕ) (a b : Lit) → is_gate n (And a b) ≡ true → NeedRow a b
gate_needs n a b h =
    let low = and_parts (nat_le 2 a.0) (nat_lt a.0 b.0 && (not (nat_eq (node_of a) (node_of b)) && nat_lt (node_of b) n)) h in
    let rest = and_parts (nat_lt a.0 b.0) (not (nat_eq (node_of a) (node_of b)) && nat_lt (node_of b) n) low.1 in
    let apart = and_parts (not (nat_eq (node_of a) (node_of b))) (nat_lt (node_of b) n) rest.1 in
    let first : 2 ≤ a.0 = leb-true 2 a.0 low.0 in
    let less : a.0 < b.0 = ltb-true a.0 b.0 rest.0 in
    record { apart = eqb-false (node_of a) (node_of b) (not-true (nat_eq (node_of a) (node_of b)) apart.0); first = first; second = omega arith }

pub hashed_pairs_once : (count : ℕ) (rows : List Row) → IsHashed count rows → PairsOnce rows
hashed_pairs_once count rows h = record {
  constant = h.front 0 (omega arith);
  ordered = λ n a b at. gate_rises n a b (subst (λ row. is_gate n row ≡ true) at (h.gates n (after n a b at) (inside n a b at)));
  once = λ m n a b first second. elim (cases_lt m n) [
    | inl less ↦ absurd (h.once m n (after m a b first) less (inside n a b second) (first ∙ sym second))
    | inr ge ↦ elim (cases_eq n m) [
      | inl e ↦ sym e
      | inr ne ↦ absurd (h.once n m (after n a b second) (omega arith) (inside m a b first) (second ∙ sym first))
    ]
  ];
}
  where
    no_free : (a b : Lit) → Free ≡ And a b → ⊥
    no_free a b e = cc

    no_source : (a b : Lit) → Source ≡ And a b → ⊥
    no_source a b e = cc

    after : (n : ℕ) (a b : Lit) → row_at rows n ≡ And a b → count < n
    after n a b at = elim (cases_lt count n) [
      | inl lt ↦ lt
      | inr ge ↦ absurd (no_source a b (sym (h.front n (omega arith)) ∙ at))
    ]

    inside : (n : ℕ) (a b : Lit) → row_at rows n ≡ And a b → n < length rows
    inside n a b at = elim (cases_lt n (length rows)) [
      | inl lt ↦ lt
      | inr ge ↦ absurd (no_free a b (sym (get_or_past rows n Free ge) ∙ at))
    ]

-- what the AND rules give

there_is : (rows : List Row) (x y : Lit) (o : Option Lit) → NeedRow x y → o ≡ literal_below rows (length rows) x y → o ≡ literal_there rows x y
there_is rows x y o needs e = e ∙ ap (λ s. or_else s (literal_below rows (length rows) x y)) (sym (needs_none x y needs))

pub in_order : (x y : Lit) → x.0 < y.0 → ordered_and x y ≡ And x y
in_order x y less = cond-true (nat_lt x.0 y.0) (And x y) (And y x) (lt-ltb x.0 y.0 less)

pub joined_found : (count : ℕ) (rows : List Row) → IsHashed count rows → (k : ℕ) (a b : Lit) → is_gate k (And a b) ≡ true → (n : ℕ) → row_at rows n ≡ And a b → n < length rows → (l : Lit) → l.0 ≡ 2 * n
    → (l ≡ joined_lit rows a b) × (rows ≡ joined_rows rows a b)
joined_found count rows h k a b gate n at lt l is =
    let there = there_is rows a b (Some l) (gate_needs k a b gate) (found_below rows (hashed_pairs_once count rows h) (length rows) a b n (at ∙ sym (in_order a b (gate_rises k a b gate))) lt l is) in
    (ap (lit_or_new rows) there, ap (rows_or_new rows (ordered_and a b)) there)

pub joined_made : (count : ℕ) (rows : List Row) → IsHashed count rows → (k : ℕ) (a b : Lit) → is_gate k (And a b) ≡ true → ((n : ℕ) → row_at rows n ≡ And a b → ⊥) → (l : Lit) → l.0 ≡ 2 * length rows
    → (l ≡ joined_lit rows a b) × (rows ++ And a b ∷ [] ≡ joined_rows rows a b)
joined_made count rows h k a b gate nowhere l is =
    let turned = in_order a b (gate_rises k a b gate) in
    let there = there_is rows a b None (gate_needs k a b gate) (found_nowhere rows (hashed_pairs_once count rows h) (length rows) a b (λ n e. nowhere n (e ∙ turned))) in
    (same_lit l (lit_of (length rows)) is ∙ ap (lit_or_new rows) there, ap (λ (row : Row). rows ++ row ∷ []) (sym turned) ∙ ap (rows_or_new rows (ordered_and a b)) there)

-- the order of the two literals is of no account
pub joined_turned : (rows : List Row) (x y : Lit) → NeedRow x y → (joined_lit rows y x ≡ joined_lit rows x y) × (joined_rows rows y x ≡ joined_rows rows x y)
joined_turned rows x y needs = (ap (lit_or_new rows) there, ap₂ (rows_or_new rows) ordered there)
  where
    turned_needs : NeedRow y x
    turned_needs = record { apart = λ e. needs.apart (sym e); first = needs.second; second = needs.first }

    pair : same_pair y x x y ≡ true
    pair = first_turned x y x y ∙ pair_itself x y

    there : literal_there rows y x ≡ literal_there rows x y
    there = ap₂ or_else (needs_none y x turned_needs ∙ sym (needs_none x y needs)) (same_below rows (length rows) y x x y pair)

    ordered : ordered_and y x ≡ ordered_and x y
    ordered = elim (cases_lt x.0 y.0) [
      | inl less ↦ turned_and_of x y less ∙ sym (in_order x y less)
      | inr ge ↦ (let more : y.0 < x.0 = omega (arith, apart) in in_order y x more ∙ sym (turned_and_of y x more))
    ]
      where
        apart : x.0 ≢ y.0
        apart e = needs.apart (ap (λ (k : ℕ). k / 2) e)

        turned_and_of : (a b : Lit) → a.0 < b.0 → ordered_and b a ≡ And a b
        turned_and_of a b less = elim (cases_Bool (nat_lt b.0 a.0)) [
          | inl t ↦ let more : b.0 < a.0 = ltb-true b.0 a.0 t in absurd (omega arith)
          | inr f ↦ cond-false (nat_lt b.0 a.0) (And b a) (And a b) f
        ]
