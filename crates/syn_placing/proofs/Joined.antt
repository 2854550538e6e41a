-- What a plan becomes over rows, with its new rows behind them, is what its gates become one after the other.
use Rattle.std.proofs.Common.{◌≡◌, ℕ, zero, suc, ◌+◌, ◌<◌, ◌≤◌, nat_lt, if◌then◌else◌, Bool, true, false, List, [], ◌∷◌, ◌++◌, length, Option, Some, None, refl, sym, ap, ap₂, ◌∙◌, subst, arith, inl, inr, append_assoc, append-nil, length-append}
use Rattle.std.proofs.lemmas.Bool.{cases_Bool, cases_lt, cond_both}
use Rattle.std.proofs.lemmas.List.{length_push, get_or_append_left, get_or_push, get_or-append-add}
use Rattle.syn_rows.specs.declared.Lit.{Lit}
use Rattle.syn_rows.specs.declared.Row.{Row}
use Rattle.syn_rows.specs.declared.Row.TheVariants.{Free, And}
use Rattle.syn_rows.specs.Rows.{row_at}
use Rattle.syn_rows.specs.Reach.{is_and}
use Rattle.syn_rows.specs.Joining.{lit_of, simple_and, is_and_of, ordered_and}
use Rattle.syn_rows.proofs.JoinLaws.{none_needs, ordered_and_is, pair_cases}
use Rattle.syn_hashed.specs.Joined.{literal_below, literal_there, lit_or_new, or_else, rows_or_new, joined_lit, joined_rows}
use Rattle.syn_hashed.proofs.Looking.{joined_turned, ordered_is, same_below}
use Rattle.syn_plan.specs.declared.PLit.{PLit}
use Rattle.syn_gain.specs.Placing.{literal_for}
use Rattle.syn_gain.specs.Searching.{Searched, gate_by, literal_new, or_new, pair_by, search_gates, there_by}
use Rattle.syn_gain.proofs.Fresh.{none_new}
use Rattle.syn_placing.specs.Placing.{AreLacking, IsLacking, PlacedGates, with_gates}

-- rows and literals, as one
abbrev pub placed : List Row → List Lit → PlacedGates
placed rows literals = record { rows = rows; literals = literals }

-- ---- where a pair is looked for in rows with new ones behind them
below_kept : (rows extra : List Row) (n : ℕ) (x y : Lit) → n ≤ length rows → literal_below (rows ++ extra) n x y ≡ literal_below rows n x y
below_kept rows extra zero x y le = refl
below_kept rows extra (suc n) x y le =
    ap₂ (λ row o. if is_and_of x y row then Some (lit_of n) else o) (get_or_append_left rows extra Free n (omega arith)) (below_kept rows extra n x y (omega arith))

else_of : (c : Bool) (l : Lit) (o p : Option Lit) → or_else (if c then Some l else o) p ≡ (if c then Some l else or_else o p)
else_of true l o p = refl
else_of false l o p = refl

-- the new rows are looked at first
below_all : (rows extra : List Row) (k m : ℕ) (x y : Lit) → m ≡ length rows + k → literal_below (rows ++ extra) m x y ≡ or_else (literal_new (length rows) extra k x y) (literal_below rows (length rows) x y)
below_all rows extra zero m x y e =
    let here : m ≡ length rows = omega (arith, e) in
    ap (λ n. literal_below (rows ++ extra) n x y) here ∙ below_kept rows extra (length rows) x y (omega arith)
below_all rows extra (suc k) zero x y e = absurd (omega (arith, e))
below_all rows extra (suc k) (suc m) x y e =
    let here : m ≡ length rows + k = omega (arith, e) in
    ap₂ (λ row o. if is_and_of x y row then Some (lit_of m) else o) (ap (row_at (rows ++ extra)) here ∙ get_or-append-add rows extra k Free) (below_all rows extra k m x y here)
    ∙ ap (λ n. if is_and_of x y (row_at extra k) then Some (lit_of n) else or_else (literal_new (length rows) extra k x y) (literal_below rows (length rows) x y)) here
    ∙ sym (else_of (is_and_of x y (row_at extra k)) (lit_of (length rows + k)) (literal_new (length rows) extra k x y) (literal_below rows (length rows) x y))

-- no new row is of a pair that the rows have
abbrev HaveNone : List Row → List Row → Type 0
HaveNone rows extra = (i : ℕ) → i < length extra → (x y : Lit) → is_and_of x y (row_at extra i) ≡ true → literal_below rows (length rows) x y ≡ None

not_new : (rows extra : List Row) → HaveNone rows extra → (x y l : Lit) → literal_below rows (length rows) x y ≡ Some l → literal_new (length rows) extra (length extra) x y ≡ None
not_new rows extra none x y l e = none_new (length rows) extra (length extra) x y each
  where
    each : (i : ℕ) → i < length extra → is_and_of x y (row_at extra i) ≡ false
    each i lt = elim (cases_Bool (is_and_of x y (row_at extra i))) [
      | inl t ↦ (let no : literal_below rows (length rows) x y ≡ None = none i lt x y t in absurd (cc (e, no)))
      | inr f ↦ f
    ]

or_none : (o : Option Lit) → o ≡ or_else o None
or_none None = refl
or_none (Some l) = refl

either_first : (o p : Option Lit) → ((l : Lit) → o ≡ Some l → p ≡ None) → or_else o p ≡ or_else p o
either_first None p h = or_none p
either_first (Some l) p h = sym (ap (λ q. or_else q (Some l)) (h l refl))

there_is : (rows extra : List Row) → HaveNone rows extra → (x y : Lit)
    → or_else (simple_and x y) (there_by (literal_below rows (length rows)) (length rows) extra x y) ≡ literal_there (rows ++ extra) x y
there_is rows extra none x y =
    ap (or_else (simple_and x y))
    (either_first (literal_below rows (length rows) x y) (literal_new (length rows) extra (length extra) x y) (λ l e. not_new rows extra none x y l e)
    ∙ sym (below_all rows extra (length extra) (length (rows ++ extra)) x y (length-append rows extra)))

-- ---- a pair
or_new_is : (rows extra : List Row) (x y : Lit) (o : Option Lit)
    → ((or_new (length rows) extra x y o).literal ≡ lit_or_new (rows ++ extra) o) × (rows ++ (or_new (length rows) extra x y o).extra ≡ rows_or_new (rows ++ extra) (ordered_and x y) o)
or_new_is rows extra x y (Some l) = (refl, refl)
or_new_is rows extra x y None = (ap lit_of (sym (length-append rows extra)), sym (append_assoc rows extra (ordered_and x y ∷ [])))

pair_is : (rows extra : List Row) → HaveNone rows extra → (x y : Lit)
    → ((pair_by (literal_below rows (length rows)) (length rows) extra x y).literal ≡ joined_lit (rows ++ extra) x y)
    × (rows ++ (pair_by (literal_below rows (length rows)) (length rows) extra x y).extra ≡ joined_rows (rows ++ extra) x y)
pair_is rows extra none x y =
    let is = or_new_is rows extra x y (or_else (simple_and x y) (there_by (literal_below rows (length rows)) (length rows) extra x y)) in
    let there = there_is rows extra none x y in
    (is.0 ∙ ap (lit_or_new (rows ++ extra)) there, is.1 ∙ ap (rows_or_new (rows ++ extra) (ordered_and x y)) there)

lacking_push : (rows extra : List Row) (row : Row) → AreLacking rows extra → IsLacking (rows ++ extra) row → AreLacking rows (extra ++ row ∷ [])
lacking_push rows [] row lack here = (subst (λ (before : List Row). IsLacking before row) (append-nil rows) here, tt)
lacking_push rows (first ∷ rest) row lack here =
    (lack.0, lacking_push (rows ++ first ∷ []) rest row lack.1 (subst (λ (before : List Row). IsLacking before row) (sym (append_assoc rows (first ∷ []) rest)) here))

both_none : (o p : Option Lit) → or_else o p ≡ None → (o ≡ None) × (p ≡ None)
both_none None p h = (refl, h)
both_none (Some l) p h = absurd (cc)

-- a row that a pair adds is one that the rows before it lack
added_lacks : (rows : List Row) (x y : Lit) → simple_and x y ≡ None → literal_there rows x y ≡ None → IsLacking rows (ordered_and x y)
added_lacks rows x y simple there = record {
  an_and = cond_both (nat_lt x.0 y.0) (And x y) (And y x) (λ row. is_and row ≡ true) (λ _. refl) (λ _. refl);
  added = λ a b is. elim (pair_cases x y a b (ap (is_and_of x y) (sym is) ∙ ordered_and_is x y)) [
    | inl e ↦ ap₂ (joined_rows rows) (sym e.0) (sym e.1) ∙ here
    | inr e ↦ ap₂ (joined_rows rows) (sym e.1) (sym e.0) ∙ (joined_turned rows x y (none_needs x y simple)).1 ∙ here
  ];
}
  where
    here : joined_rows rows x y ≡ rows ++ ordered_and x y ∷ []
    here = ap (rows_or_new rows (ordered_and x y)) there

-- ---- all gates
record AreAdded (rows extra : List Row) : Type 0 where
  pub none : HaveNone rows extra
  pub lacking : AreLacking rows extra

pair_added : (rows extra : List Row) (x y : Lit) (o : Option Lit) → o ≡ or_else (simple_and x y) (there_by (literal_below rows (length rows)) (length rows) extra x y)
    → AreAdded rows extra → AreAdded rows (or_new (length rows) extra x y o).extra
pair_added rows extra x y (Some l) e added = added
pair_added rows extra x y None e added = record {
  none = λ i lt a b t. elim (cases_lt i (length extra)) [
    | inl old ↦ added.none i old a b (ap (is_and_of a b) (sym (get_or_append_left extra (ordered_and x y ∷ []) Free i old)) ∙ t)
    | inr ge ↦
        let here : length extra ≡ i = omega (arith, length_push extra (ordered_and x y), lt) in
        same_below rows (length rows) a b x y (sym (ordered_is a b x y) ∙ ap (is_and_of a b) (sym (get_or_push extra (ordered_and x y) Free i here)) ∙ t) ∙ below
  ];
  lacking = lacking_push rows extra (ordered_and x y) added.lacking (added_lacks (rows ++ extra) x y simple (sym (there_is rows extra added.none x y) ∙ sym e));
}
  where
    simple : simple_and x y ≡ None
    simple = (both_none (simple_and x y) (there_by (literal_below rows (length rows)) (length rows) extra x y) (sym e)).0

    below : literal_below rows (length rows) x y ≡ None
    below =
        (both_none (literal_below rows (length rows) x y) (literal_new (length rows) extra (length extra) x y)
        (both_none (simple_and x y) (there_by (literal_below rows (length rows)) (length rows) extra x y) (sym e)).1).0

gates_are : (rows : List Row) (gates : List (PLit × PLit)) (s : Searched) → AreAdded rows s.extra
    → (with_gates (placed (rows ++ s.extra) s.literals) gates ≡ placed (rows ++ (search_gates rows (length rows) s gates).extra) (search_gates rows (length rows) s gates).literals)
    × AreAdded rows (search_gates rows (length rows) s gates).extra
gates_are rows [] s added = (refl, added)
gates_are rows (gate ∷ gates) s added =
    let x = literal_for s.literals gate.0 in
    let y = literal_for s.literals gate.1 in
    let is = pair_is rows s.extra added.none x y in
    let rest = gates_are rows gates (gate_by (literal_below rows (length rows)) (length rows) s gate)
    (pair_added rows s.extra x y (or_else (simple_and x y) (there_by (literal_below rows (length rows)) (length rows) s.extra x y)) refl added) in
    (ap (λ t. with_gates t gates) (ap₂ placed (sym is.1) (ap (λ l. s.literals ++ l ∷ []) (sym is.0))) ∙ rest.0, rest.1)

-- over literals of its leaves
pub plan_is : (rows : List Row) (literals : List Lit) (gates : List (PLit × PLit))
    → (with_gates (placed rows literals) gates ≡ placed (rows ++ (search_gates rows (length rows) (record { literals = literals; extra = [] }) gates).extra) (search_gates rows (length rows) (record { literals = literals; extra = [] }) gates).literals)
    × AreLacking rows (search_gates rows (length rows) (record { literals = literals; extra = [] }) gates).extra
plan_is rows literals gates =
    let all = gates_are rows gates (record { literals = literals; extra = [] }) (record { none = λ i lt x y t. absurd (omega arith); lacking = tt }) in
    (ap (λ (l : List Row). with_gates (placed l literals) gates) (sym (append-nil rows)) ∙ all.0, all.1.lacking)
