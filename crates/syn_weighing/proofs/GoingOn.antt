-- Where leaves and gates stand apart, each gate needs a row of its own: so a plan goes on adding rows.
use Rattle.std.proofs.Common.{◌≡◌, ◌≢◌, ◌⊎◌, ℕ, zero, suc, ◌+◌, ◌-◌, ◌*◌, ◌%◌, ◌<◌, ◌≤◌, ◌&&◌, ◌||◌, ◌==◌, nat_le, nat_lt, not, Bool, true, false, List, [], ◌∷◌, ◌++◌, length, get_or, take, Option, Some, None, refl, sym, ap, ◌∙◌, subst, arith, inl, inr}
use Rattle.std.specs.List.{list_any}
use Rattle.std.proofs.lemmas.Bool.{and_from, and_parts, cases_Bool, cases_eq, cases_lt, cond_both, cond-false, cond-true, or_cases, or_left, or_right, eq-eqb, eqb-true, le-leb, leb-true, lt-ltb, ltb-true}
use Rattle.std.proofs.Math.Seq.{take-append_seam}
use Rattle.std.proofs.lemmas.List.{append-nil, append_assoc, get_or_append_left, get_or_push, length_push, length-take-le, take-append-le}
use Rattle.syn_rows.specs.declared.Lit.{Lit}
use Rattle.syn_rows.specs.declared.Row.{Row}
use Rattle.syn_rows.specs.declared.Row.TheVariants.{Free, Source, And, Alias}
use Rattle.syn_rows.specs.Nodes.{has_node}
use Rattle.syn_rows.specs.Rows.{InOrder, node_of, row_at}
use Rattle.syn_rows.specs.Joining.{complement, constant, is_and_of, lit_of, ordered_and, simple_and}
use Rattle.syn_rows.proofs.JoinLaws.{needs_none, pair_cases}
use Rattle.syn_rows.proofs.Nodes.{has_at}
use Rattle.syn_fanout_free.proofs.Pointwise.{at_ref}
use Rattle.syn_plan.specs.declared.PLit.{PLit}
use Rattle.syn_plan.specs.Gates.{index_of}
use Rattle.syn_cones.specs.Leaves.{are_below, rise_above}
use Rattle.syn_gain.specs.Placing.{each_below, leaf_literals, literal_for}
use Rattle.syn_gain.specs.Replacements.{Replacement}
use Rattle.syn_gain.specs.Searching.{Searched, search_gate, state, with_pair}
use Rattle.syn_gain.proofs.Bounds.{OfSome, below_each, joined_by}
use Rattle.syn_gain.proofs.Fresh.{pair_refers}
use Rattle.syn_weighing.specs.AllNew.{StandsApart, are_apart, is_in_use, joins, may_be_made, same_literal}
use Rattle.syn_weighing.specs.Weighing.{IsWeightOf, IsWeightUntil, and_then, dry_run_gate, dry_run_gates, weigh_until, where_needed}
use Rattle.syn_weighing.proofs.Told.{IsTold, begun_told, each_gate, each_long, for_node, for_pushed, is_there, node_at, some_is, step, then_some}

-- ---- rows of pairs

-- the row of two pairs: they are the same pair
one_pair : (x y u v : Lit) (row : Row) → is_and_of x y row ≡ true → is_and_of u v row ≡ true → ((x ≡ u) × (y ≡ v)) ⊎ ((x ≡ v) × (y ≡ u))
one_pair x y u v Free h g = absurd (cc)
one_pair x y u v Source h g = absurd (cc)
one_pair x y u v (Alias a) h g = absurd (cc)
one_pair x y u v (And a b) h g = elim (pair_cases x y a b h) [
  | inl p ↦ elim (pair_cases u v a b g) [
    | inl q ↦ inl (p.0 ∙ sym q.0, p.1 ∙ sym q.1)
    | inr q ↦ inr (p.0 ∙ sym q.1, p.1 ∙ sym q.0)
  ]
  | inr p ↦ elim (pair_cases u v a b g) [
    | inl q ↦ inr (p.0 ∙ sym q.1, p.1 ∙ sym q.0)
    | inr q ↦ inl (p.0 ∙ sym q.0, p.1 ∙ sym q.1)
  ]
]

-- the row of a pair joins its nodes
pair_joins : (f : ℕ → Bool) (x y : Lit) (row : Row) → is_and_of x y row ≡ true → f (node_of x) ≡ true → f (node_of y) ≡ true → joins f row ≡ true
pair_joins f x y Free h first second = absurd (cc)
pair_joins f x y Source h first second = absurd (cc)
pair_joins f x y (Alias a) h first second = absurd (cc)
pair_joins f x y (And a b) h first second = elim (pair_cases x y a b h) [
  | inl p ↦ and_from (f (node_of a)) (f (node_of b)) (ap (λ (l : Lit). f (node_of l)) (sym p.0) ∙ first) (ap (λ (l : Lit). f (node_of l)) (sym p.1) ∙ second)
  | inr p ↦ and_from (f (node_of a)) (f (node_of b)) (ap (λ (l : Lit). f (node_of l)) (sym p.1) ∙ second) (ap (λ (l : Lit). f (node_of l)) (sym p.0) ∙ first)
]

both_false : (b c : Bool) → not (b || c) ≡ true → (b ≡ false) × (not c ≡ true)
both_false true c h = absurd (cc (h))
both_false false c h = (refl, h)

-- what no node of a list has, none has that is there
none_at : (f : ℕ → Bool) (xs : List ℕ) (n : ℕ) → not (list_any f xs) ≡ true → has_node xs n ≡ true → f n ≡ false
none_at f [] n h there = absurd (cc (there))
none_at f (x ∷ xs) n h there =
    let parts = both_false (f x) (list_any f xs) h in
    elim (or_cases (x == n) (has_node xs n) there) [
      | inl same ↦ ap f (sym (eqb-true x n same)) ∙ parts.0
      | inr more ↦ none_at f xs n parts.1 more
    ]

is_false : (b : Bool) → b ≡ true → b ≡ false → ⊥
is_false b t f = cc (t, f)

-- ---- indexes in use
in_more : (named base count i : ℕ) → is_in_use named base (suc count) i ≡ true → (is_in_use named base count i ≡ true) ⊎ (i ≡ base + count)
in_more named base count i h = elim (or_cases (nat_lt 0 i && nat_le i named) (nat_le base i && nat_lt i (base + suc count)) h) [
  | inl leaf ↦ inl (or_left (nat_lt 0 i && nat_le i named) (nat_le base i && nat_lt i (base + count)) leaf)
  | inr gate ↦
      let parts = and_parts (nat_le base i) (nat_lt i (base + suc count)) gate in
      elim (cases_lt i (base + count)) [
        | inl lt ↦ inl (or_right (nat_lt 0 i && nat_le i named) (nat_le base i && nat_lt i (base + count)) (and_from (nat_le base i) (nat_lt i (base + count)) parts.0 (lt-ltb i (base + count) lt)))
        | inr ge ↦ inr (omega (arith, ge, ltb-true i (base + suc count) parts.1))
      ]
]

in_later : (named base count more i : ℕ) → count ≤ more → is_in_use named base count i ≡ true → is_in_use named base more i ≡ true
in_later named base count more i le h = elim (or_cases (nat_lt 0 i && nat_le i named) (nat_le base i && nat_lt i (base + count)) h) [
  | inl leaf ↦ or_left (nat_lt 0 i && nat_le i named) (nat_le base i && nat_lt i (base + more)) leaf
  | inr gate ↦
      let parts = and_parts (nat_le base i) (nat_lt i (base + count)) gate in
      or_right (nat_lt 0 i && nat_le i named) (nat_le base i && nat_lt i (base + more))
      (and_from (nat_le base i) (nat_lt i (base + more)) parts.0 (lt-ltb i (base + more) (omega (arith, le, ltb-true i (base + count) parts.1))))
]

-- an index in use is a leaf's or a gate's
in_parts : (named base count i : ℕ) → is_in_use named base count i ≡ true → ((0 < i) × (i ≤ named)) ⊎ ((g : ℕ) × (g < count) × (i ≡ base + g))
in_parts named base count i h = elim (or_cases (nat_lt 0 i && nat_le i named) (nat_le base i && nat_lt i (base + count)) h) [
  | inl leaf ↦ let parts = and_parts (nat_lt 0 i) (nat_le i named) leaf in inl (ltb-true 0 i parts.0, leb-true i named parts.1)
  | inr gate ↦
      let parts = and_parts (nat_le base i) (nat_lt i (base + count)) gate in
      let low = leb-true base i parts.0 in
      inr (i - base, omega (arith, low, ltb-true i (base + count) parts.1), omega (arith, low))
]

gate_in_use : (named base count g : ℕ) → g < count → is_in_use named base count (base + g) ≡ true
gate_in_use named base count g lt =
    or_right (nat_lt 0 (base + g) && nat_le (base + g) named) (nat_le base (base + g) && nat_lt (base + g) (base + count))
    (and_from (nat_le base (base + g)) (nat_lt (base + g) (base + count)) (le-leb base (base + g) (omega arith)) (lt-ltb (base + g) (base + count) (omega (arith, lt))))

leaf_in_use : (named base count i : ℕ) → 0 < i → i ≤ named → is_in_use named base count i ≡ true
leaf_in_use named base count i positive le =
    or_left (nat_lt 0 i && nat_le i named) (nat_le base i && nat_lt i (base + count)) (and_from (nat_lt 0 i) (nat_le i named) (lt-ltb 0 i positive) (le-leb i named le))

-- ---- gates over leaves that stand apart
module _ (rows : List Row) (root : ℕ) (leaves : List ℕ) (named base : ℕ) (becomes : ℕ → ℕ) (levels : ℕ) (positive : 0 < root) (low : root ≤ length rows) (order : InOrder rows) (few : named < base) (apart : are_apart levels rows leaves ≡ true) where
  abbrev first : ℕ
  first = length rows

  abbrev Gate : Type 0
  Gate = PLit × PLit

  abbrev least : ℕ
  least = get_or leaves 0 0

  -- a node that may be made of leaves, however many levels of rows are looked at
  record IsMade (n : ℕ) : Type 0 where
    least_first : least ≤ n
    each : (k : ℕ) → may_be_made rows leaves k n ≡ true

  -- the literals of the indexes in use are plain, and of different nodes where they aren't said to become the same; old nodes may be made
  record IsSpread (done : List Gate) (s : Searched) : Type 0 where
    plain : (i : ℕ) → is_in_use named base (length done) i ≡ true → get_or s.literals i constant ≡ lit_of (node_at s.literals i)
    some : (i : ℕ) → is_in_use named base (length done) i ≡ true → node_at s.literals i ≢ 0
    differ : (i j : ℕ) → is_in_use named base (length done) i ≡ true → is_in_use named base (length done) j ≡ true → node_at s.literals i ≡ node_at s.literals j → becomes i ≡ becomes j
    made : (i : ℕ) → is_in_use named base (length done) i ≡ true → node_at s.literals i < first → IsMade (node_at s.literals i)
    leaf : (i : ℕ) → 0 < i → i ≤ named → (has_node leaves (node_at s.literals i) ≡ true) × (node_at s.literals i < first)
    stand : (g : ℕ) (d : Gate) → g < length done → StandsApart named base becomes (take g done) (get_or done g d)
    olds : (g : ℕ) (d : Gate) → g < length done → node_at s.literals (base + g) < first
        → is_and_of (literal_for s.literals (get_or done g d).0) (literal_for s.literals (get_or done g d).1) (row_at rows (node_at s.literals (base + g))) ≡ true

  -- an AND of such nodes is one
  made_by : (x y : Lit) (n : ℕ) → is_and_of x y (row_at rows n) ≡ true → IsMade (node_of x) → IsMade (node_of y) → IsMade n
  made_by x y n h first_made second_made = record { least_first = above_least; each = each }
    where
      above_least : least ≤ n
      above_least = let under = at_ref (λ m. m < n) (row_at rows n) (order n) (node_of x) (pair_refers x y (row_at rows n) h).0 in omega (arith, under, first_made.least_first)

      each : (k : ℕ) → may_be_made rows leaves k n ≡ true
      each zero = le-leb least n above_least
      each (suc k) =
          and_from (nat_le least n) (has_node leaves n || joins (may_be_made rows leaves k) (row_at rows n)) (le-leb least n above_least)
          (or_right (has_node leaves n) (joins (may_be_made rows leaves k) (row_at rows n)) (pair_joins (may_be_made rows leaves k) x y (row_at rows n) h (first_made.each k) (second_made.each k)))

  -- no leaf is the AND of two such nodes
  no_leaf : (x y : Lit) (n : ℕ) → is_and_of x y (row_at rows n) ≡ true → IsMade (node_of x) → IsMade (node_of y) → has_node leaves n ≡ true → ⊥
  no_leaf x y n h first_made second_made leaf =
      is_false (joins (may_be_made rows leaves levels) (row_at rows n))
      (pair_joins (may_be_made rows leaves levels) x y (row_at rows n) h (first_made.each levels) (second_made.each levels))
      (none_at (λ m. joins (may_be_made rows leaves levels) (row_at rows m)) leaves n apart leaf)

  module _ (done : List Gate) (s : Searched) (told : IsTold first base done s) (spread : IsSpread done s) where
    abbrev In : ℕ → Type 0
    In i = is_in_use named base (length done) i ≡ true

    -- plan literals in use that became one literal are said to be one
    one_literal : (p q : PLit) → In (index_of p) → In (index_of q) → literal_for s.literals p ≡ literal_for s.literals q → same_literal becomes p q ≡ true
    one_literal p q p_in q_in same =
        let node = sym (for_node s.literals p) ∙ ap node_of same ∙ for_node s.literals q in
        let at = ap (λ (l : Lit). l.0) same in
        and_from (becomes (index_of p) == becomes (index_of q)) (p.0 % 2 == q.0 % 2) (eq-eqb (becomes (index_of p)) (becomes (index_of q)) (spread.differ (index_of p) (index_of q) p_in q_in node))
        (eq-eqb (p.0 % 2) (q.0 % 2) (omega (arith, signed p p_in, signed q q_in, at, node)))
      where
        signed : (p : PLit) → In (index_of p) → (literal_for s.literals p).0 ≡ 2 * node_at s.literals (index_of p) + p.0 % 2
        signed p p_in =
            let plain = spread.plain (index_of p) p_in in
            cond_both (p.0 % 2 == 0) (get_or s.literals (index_of p) constant) (complement (get_or s.literals (index_of p) constant))
            (λ (t : Lit). t.0 ≡ 2 * node_at s.literals (index_of p) + p.0 % 2)
            (λ e. omega (arith, ap (λ (l : Lit). l.0) plain, eqb-true (p.0 % 2) 0 e))
            (λ e. ap (λ (l : Lit). (complement l).0) plain ∙ odd_one (node_at s.literals (index_of p)) e)
          where
            odd_one : (n : ℕ) → (p.0 % 2 == 0) ≡ false → (complement (lit_of n)).0 ≡ 2 * n + p.0 % 2
            odd_one n e =
                cond_both (2 * n % 2 == 0) (2 * n + 1) (2 * n - 1) (λ (t : ℕ). t ≡ 2 * n + p.0 % 2) (λ _. omega (arith, not_zero e)) (λ odd. absurd (odd_even odd))
              where
                not_zero : (p.0 % 2 == 0) ≡ false → p.0 % 2 ≡ 1
                not_zero e = elim (cases_eq (p.0 % 2) 0) [
                  | inl z ↦ absurd (is_false (p.0 % 2 == 0) (eq-eqb (p.0 % 2) 0 z) e)
                  | inr some ↦ omega (arith, some)
                ]

                odd_even : (2 * n % 2 == 0) ≡ false → ⊥
                odd_even odd = is_false (2 * n % 2 == 0) (eq-eqb (2 * n % 2) 0 (omega arith)) odd

    first_in : (g : ℕ) (d : Gate) → g < length done → In (index_of (get_or done g d).0)
    first_in g d lt = in_later named base (length (take g done)) (length done) (index_of (get_or done g d).0) (omega (arith, length-take-le g done)) (spread.stand g d lt).left

    second_in : (g : ℕ) (d : Gate) → g < length done → In (index_of (get_or done g d).1)
    second_in g d lt = in_later named base (length (take g done)) (length done) (index_of (get_or done g d).1) (omega (arith, length-take-le g done)) (spread.stand g d lt).right

    module _ (gate : Gate) (stand : StandsApart named base becomes done gate) where
      abbrev x : Lit
      x = literal_for s.literals gate.0

      abbrev y : Lit
      y = literal_for s.literals gate.1

      some_x : node_of x ≢ 0
      some_x e = spread.some (index_of gate.0) stand.left (sym (for_node s.literals gate.0) ∙ e)

      some_y : node_of y ≢ 0
      some_y e = spread.some (index_of gate.1) stand.right (sym (for_node s.literals gate.1) ∙ e)

      needs_row : simple_and x y ≡ None
      needs_row = needs_none x y (record {
        apart = λ e. stand.differ (spread.differ (index_of gate.0) (index_of gate.1) stand.left stand.right (sym (for_node s.literals gate.0) ∙ e ∙ for_node s.literals gate.1));
        first = two x some_x;
        second = two y some_y;
      })
        where
          two : (l : Lit) → node_of l ≢ 0 → 2 ≤ l.0
          two l some = omega (arith, some)

      -- a gate before it that became the row of its pair is said to become the same
      one_gate : (g : ℕ) → g < length done → (row : Row) → is_and_of x y row ≡ true
          → is_and_of (literal_for s.literals (get_or done g gate).0) (literal_for s.literals (get_or done g gate).1) row ≡ true → becomes (base + g) ≡ becomes (base + length done)
      one_gate g lt row h k =
          let d = get_or done g gate in
          stand.once g gate lt
          (elim (one_pair x y (literal_for s.literals d.0) (literal_for s.literals d.1) row h k) [
            | inl p ↦
                or_left (same_literal becomes gate.0 d.0 && same_literal becomes gate.1 d.1) (same_literal becomes gate.0 d.1 && same_literal becomes gate.1 d.0)
                (and_from (same_literal becomes gate.0 d.0) (same_literal becomes gate.1 d.1) (one_literal gate.0 d.0 stand.left (first_in g gate lt) p.0) (one_literal gate.1 d.1 stand.right (second_in g gate lt) p.1))
            | inr p ↦
                or_right (same_literal becomes gate.0 d.0 && same_literal becomes gate.1 d.1) (same_literal becomes gate.0 d.1 && same_literal becomes gate.1 d.0)
                (and_from (same_literal becomes gate.0 d.1) (same_literal becomes gate.1 d.0) (one_literal gate.0 d.1 stand.left (second_in g gate lt) p.0) (one_literal gate.1 d.0 stand.right (first_in g gate lt) p.1))
          ])

      -- the row of its pair that was there
      module _ (n : ℕ) (old : n < first) (h : is_and_of x y (row_at rows n) ≡ true) where
        under : (node_of x < n) × (node_of y < n)
        under =
            let refs = pair_refers x y (row_at rows n) h in
            (at_ref (λ m. m < n) (row_at rows n) (order n) (node_of x) refs.0, at_ref (λ m. m < n) (row_at rows n) (order n) (node_of y) refs.1)

        made_x : IsMade (node_of x)
        made_x = subst IsMade (sym (for_node s.literals gate.0)) (spread.made (index_of gate.0) stand.left (omega (arith, old, under.0, for_node s.literals gate.0)))

        made_y : IsMade (node_of y)
        made_y = subst IsMade (sym (for_node s.literals gate.1)) (spread.made (index_of gate.1) stand.right (omega (arith, old, under.1, for_node s.literals gate.1)))

        same_old : (i : ℕ) → In i → node_at s.literals i ≡ n → becomes i ≡ becomes (base + length done)
        same_old i i_in e = elim (in_parts named base (length done) i i_in) [
          | inl leaf ↦ absurd (no_leaf x y n h made_x made_y (subst (λ (m : ℕ). has_node leaves m ≡ true) e (spread.leaf i leaf.0 leaf.1).0))
          | inr (g, lt, is) ↦
              let at : node_at s.literals (base + g) ≡ n = ap (node_at s.literals) (sym is) ∙ e in
              ap becomes is
              ∙ one_gate g lt (row_at rows n) h
              (subst (λ (m : ℕ). is_and_of (literal_for s.literals (get_or done g gate).0) (literal_for s.literals (get_or done g gate).1) (row_at rows m) ≡ true) at
              (spread.olds g gate lt (omega (arith, at, old))))
        ]

      -- a new row of its pair that was there
      same_new : (k : ℕ) → is_and_of x y (row_at s.extra k) ≡ true → (i : ℕ) → In i → node_at s.literals i ≡ first + k → becomes i ≡ becomes (base + length done)
      same_new k h i i_in e = elim (in_parts named base (length done) i i_in) [
        | inl leaf ↦ absurd (omega (arith, e, (spread.leaf i leaf.0 leaf.1).1))
        | inr (g, lt, is) ↦
            let at : node_at s.literals (base + g) ≡ first + k = ap (node_at s.literals) (sym is) ∙ e in
            let place : node_at s.literals (base + g) - first ≡ k = omega (arith, at) in
            ap becomes is
            ∙ one_gate g lt (row_at s.extra k) h
            (subst (λ (j : ℕ). is_and_of (literal_for s.literals (get_or done g gate).0) (literal_for s.literals (get_or done g gate).1) (row_at s.extra j) ≡ true) place
            (told.rows g gate lt (omega (arith, at))))
      ]

      -- one gate more, which became a node that is none in use but of those that are said to become the same
      module _ (n : ℕ) (extra : List Row) (some : n ≢ 0) (fresh : (i : ℕ) → In i → node_at s.literals i ≡ n → becomes i ≡ becomes (base + length done)) (made : n < first → IsMade n) (old : n < first → is_and_of x y (row_at rows n) ≡ true) where
        abbrev now : List Lit
        now = s.literals ++ lit_of n ∷ []

        abbrev longer : List Gate
        longer = done ++ gate ∷ []

        at_old : (i : ℕ) → In i → get_or now i constant ≡ get_or s.literals i constant
        at_old i i_in = get_or_append_left s.literals (lit_of n ∷ []) constant i (is_there s.literals i (spread.some i i_in))

        at_new : (i : ℕ) → i ≡ base + length done → get_or now i constant ≡ lit_of n
        at_new i e = get_or_push s.literals (lit_of n) constant i (told.long ∙ sym e)

        node_new : (i : ℕ) → i ≡ base + length done → node_at now i ≡ n
        node_new i e = omega (arith, ap node_of (at_new i e))

        either : (i : ℕ) → is_in_use named base (length longer) i ≡ true → (In i) ⊎ (i ≡ base + length done)
        either i h =
            let long : length longer ≡ suc (length done) = omega (arith, length_push done gate) in
            in_more named base (length done) i (subst (λ (k : ℕ). is_in_use named base k i ≡ true) long h)

        now_plain : (i : ℕ) → is_in_use named base (length longer) i ≡ true → get_or now i constant ≡ lit_of (node_at now i)
        now_plain i h = elim (either i h) [
          | inl i_in ↦ at_old i i_in ∙ spread.plain i i_in ∙ ap lit_of (sym (ap node_of (at_old i i_in)))
          | inr e ↦ at_new i e ∙ ap lit_of (sym (node_new i e))
        ]

        now_some : (i : ℕ) → is_in_use named base (length longer) i ≡ true → node_at now i ≢ 0
        now_some i h z = elim (either i h) [
          | inl i_in ↦ spread.some i i_in (sym (ap node_of (at_old i i_in)) ∙ z)
          | inr e ↦ some (sym (node_new i e) ∙ z)
        ]

        now_differ : (i j : ℕ) → is_in_use named base (length longer) i ≡ true → is_in_use named base (length longer) j ≡ true → node_at now i ≡ node_at now j → becomes i ≡ becomes j
        now_differ i j h k same = elim (either i h) [
          | inl i_in ↦ elim (either j k) [
            | inl j_in ↦ spread.differ i j i_in j_in (sym (ap node_of (at_old i i_in)) ∙ same ∙ ap node_of (at_old j j_in))
            | inr e ↦ fresh i i_in (sym (ap node_of (at_old i i_in)) ∙ same ∙ node_new j e) ∙ ap becomes (sym e)
          ]
          | inr e ↦ elim (either j k) [
            | inl j_in ↦ sym (fresh j j_in (sym (ap node_of (at_old j j_in)) ∙ sym same ∙ node_new i e) ∙ ap becomes (sym e))
            | inr f ↦ ap becomes (e ∙ sym f)
          ]
        ]

        now_made : (i : ℕ) → is_in_use named base (length longer) i ≡ true → node_at now i < first → IsMade (node_at now i)
        now_made i h lt = elim (either i h) [
          | inl i_in ↦ let at = ap node_of (at_old i i_in) in subst IsMade (sym at) (spread.made i i_in (omega (arith, at, lt)))
          | inr e ↦ let at = node_new i e in subst IsMade (sym at) (made (omega (arith, at, lt)))
        ]

        for_old : (g : ℕ) (d : Gate) → g < length done
            → (literal_for now (get_or done g d).0 ≡ literal_for s.literals (get_or done g d).0) × (literal_for now (get_or done g d).1 ≡ literal_for s.literals (get_or done g d).1)
        for_old g d lt = (for_pushed s.literals (lit_of n) (get_or done g d).0 (told.some g d lt).0, for_pushed s.literals (lit_of n) (get_or done g d).1 (told.some g d lt).1)

        now_olds : (g : ℕ) (d : Gate) → g < length longer → node_at now (base + g) < first
            → is_and_of (literal_for now (get_or longer g d).0) (literal_for now (get_or longer g d).1) (row_at rows (node_at now (base + g))) ≡ true
        now_olds =
            each_gate (λ g h. node_at now (base + g) < first → is_and_of (literal_for now h.0) (literal_for now h.1) (row_at rows (node_at now (base + g))) ≡ true) done gate
            (λ g d lt small.
            let at = ap node_of (at_old (base + g) (gate_in_use named base (length done) g lt)) in
            ap (λ (m : ℕ). is_and_of (literal_for now (get_or done g d).0) (literal_for now (get_or done g d).1) (row_at rows m)) at
            ∙ ap (λ (t : Lit). is_and_of t (literal_for now (get_or done g d).1) (row_at rows (node_at s.literals (base + g)))) (for_old g d lt).0
            ∙ ap (λ (t : Lit). is_and_of (literal_for s.literals (get_or done g d).0) t (row_at rows (node_at s.literals (base + g)))) (for_old g d lt).1
            ∙ spread.olds g d lt (omega (arith, at, small)))
            (λ small.
            let at = node_new (base + length done) refl in
            ap (λ (m : ℕ). is_and_of (literal_for now gate.0) (literal_for now gate.1) (row_at rows m)) at
            ∙ ap (λ (t : Lit). is_and_of t (literal_for now gate.1) (row_at rows n)) (for_pushed s.literals (lit_of n) gate.0 some_x)
            ∙ ap (λ (t : Lit). is_and_of x t (row_at rows n)) (for_pushed s.literals (lit_of n) gate.1 some_y)
            ∙ old (omega (arith, at, small)))

        spread_more : IsSpread longer (state now extra)
        spread_more = record {
          plain = now_plain;
          some = now_some;
          differ = now_differ;
          made = now_made;
          leaf = λ i positive le. subst (λ (m : ℕ). (has_node leaves m ≡ true) × (m < first)) (sym (ap node_of (at_old i (leaf_in_use named base (length done) i positive le)))) (spread.leaf i positive le);
          stand = each_gate (λ g h. StandsApart named base becomes (take g longer) h) done gate
              (λ g d lt. subst (λ (before : List Gate). StandsApart named base becomes before (get_or done g d)) (sym (take-append-le g done (gate ∷ []) (omega (arith, lt)))) (spread.stand g d lt))
              (subst (λ (before : List Gate). StandsApart named base becomes before gate) (sym (take-append_seam done (gate ∷ []))) stand);
          olds = now_olds;
        }

      -- a gate that stands apart
      spread_step : IsSpread (done ++ gate ∷ []) (search_gate rows root s gate)
      spread_step =
          joined_by (λ j. IsSpread (done ++ gate ∷ []) (with_pair s.literals j)) rows root s.extra x y
          (subst (OfSome (λ l. IsSpread (done ++ gate ∷ []) (with_pair s.literals (record { literal = l; extra = s.extra })))) (sym needs_row) tt)
          (λ n lt h.
          let old : n < first = omega (arith, lt, low) in
          spread_more n s.extra (λ z. omega (arith, z, (under n old h).0)) (same_old n old h) (λ _. made_by x y n h (made_x n old h) (made_y n old h)) (λ _. h))
          (λ i lt h. spread_more (first + i) s.extra (λ z. omega (arith, z, positive, low)) (same_new i h) (λ less. absurd (omega (arith, less))) (λ less. absurd (omega (arith, less))))
          (spread_more (first + length s.extra) (s.extra ++ ordered_and x y ∷ []) (λ z. omega (arith, z, positive, low)) (λ i i_in e. absurd (omega (arith, e, told.below i))) (λ less. absurd (omega (arith, less))) (λ less. absurd (omega (arith, less))))

      no_fewer : length s.extra ≤ length (search_gate rows root s gate).extra
      no_fewer =
          joined_by (λ j. length s.extra ≤ length j.extra) rows root s.extra x y
          (subst (OfSome (λ (l : Lit). length s.extra ≤ length s.extra)) (sym needs_row) tt) (λ n lt h. omega arith) (λ i lt h. omega arith) (omega (arith, length_push s.extra (ordered_and x y)))

  abbrev AllStand : List Gate → List Gate → Type 0
  AllStand done gates = (i : ℕ) (d : Gate) → i < length gates → StandsApart named base becomes (done ++ take i gates) (get_or gates i d)

  -- so do the first of some gates, and those behind it
  one_stands : (done gates : List Gate) (gate : Gate) → AllStand done (gate ∷ gates) → StandsApart named base becomes done gate
  one_stands done gates gate each = subst (λ (before : List Gate). StandsApart named base becomes before gate) (append-nil done) (each 0 gate (omega arith))

  more_stand : (done gates : List Gate) (gate : Gate) → AllStand done (gate ∷ gates) → AllStand (done ++ gate ∷ []) gates
  more_stand done gates gate each i d lt =
      subst (λ (before : List Gate). StandsApart named base becomes before (get_or gates i d)) (sym (append_assoc done (gate ∷ []) (take i gates))) (each (suc i) d (omega (arith, lt)))

  -- each of such gates needs a row
  goes_on : (gates done : List Gate) (s : Searched) → IsTold first base done s → IsSpread done s → AllStand done gates
      → (t : Searched) × (dry_run_gates rows root gates s ≡ Some t) × (length s.extra ≤ length t.extra)
  goes_on [] done s told spread each = (s, refl, omega arith)
  goes_on (gate ∷ gates) done s told spread each =
      let stand = one_stands done gates gate each in
      let none = needs_row done s told spread gate stand in
      let next = search_gate rows root s gate in
      let rest = goes_on gates (done ++ gate ∷ []) next (step rows root base done s gate low order told none) (spread_step done s told spread gate stand) (more_stand done gates gate each) in (
        rest.0,
        ap (λ (o : Option Lit). and_then (where_needed o next) (dry_run_gates rows root gates)) none ∙ rest.1,
        omega (arith, rest.2, no_fewer done s told spread gate stand),
      )

  -- also those behind the ones after which so many new rows stand
  goes_on_from : (most : ℕ) (gates done : List Gate) (s t : Searched) → IsTold first base done s → IsSpread done s → AllStand done gates → weigh_until rows root most gates s ≡ Some t
      → (u : Searched) × (dry_run_gates rows root gates s ≡ Some u) × (length t.extra ≤ length u.extra)
  goes_on_from most [] done s t told spread each h = (s, refl, omega (arith, ap (λ (r : Searched). length r.extra) (some_is s t h)))
  goes_on_from most (gate ∷ gates) done s t told spread each h = elim (cases_Bool (nat_le most (length s.extra))) [
    | inl ends ↦
        let same = some_is s t (sym (cond-true (nat_le most (length s.extra)) (Some s) (and_then (dry_run_gate rows root s gate) (weigh_until rows root most gates)) ends) ∙ h) in
        let rest = goes_on (gate ∷ gates) done s told spread each in
        (rest.0, rest.1, omega (arith, rest.2, ap (λ (r : Searched). length r.extra) same))
    | inr more ↦
        let stand = one_stands done gates gate each in
        let none = needs_row done s told spread gate stand in
        let next = search_gate rows root s gate in
        let rest = goes_on_from most gates (done ++ gate ∷ []) next t (step rows root base done s gate low order told none) (spread_step done s told spread gate stand) (more_stand done gates gate each)
        (sym (ap (λ (o : Option Lit). and_then (where_needed o next) (weigh_until rows root most gates)) none)
        ∙ sym (cond-false (nat_le most (length s.extra)) (Some s) (and_then (dry_run_gate rows root s gate) (weigh_until rows root most gates)) more) ∙ h) in
        (rest.0, ap (λ (o : Option Lit). and_then (where_needed o next) (dry_run_gates rows root gates)) none ∙ rest.1, rest.2)
  ]

-- where so many new rows stand, no gate is looked at
pub until_ends : (rows : List Row) (root most : ℕ) (gates : List (PLit × PLit)) (s : Searched) → most ≤ length s.extra → weigh_until rows root most gates s ≡ Some s
until_ends rows root most [] s le = refl
until_ends rows root most (gate ∷ gates) s le =
    cond-true (nat_le most (length s.extra)) (Some s) (and_then (dry_run_gate rows root s gate) (weigh_until rows root most gates)) (le-leb most (length s.extra) le)

-- fewer than so many new rows: those are all gates
all_weighed : (rows : List Row) (root most : ℕ) (gates : List (PLit × PLit)) (s t : Searched) → weigh_until rows root most gates s ≡ Some t → length t.extra < most → dry_run_gates rows root gates s ≡ Some t
all_weighed rows root most [] s t h few = h
all_weighed rows root most (gate ∷ gates) s t h few = elim (cases_Bool (nat_le most (length s.extra))) [
  | inl ends ↦
      let same = some_is s t (sym (cond-true (nat_le most (length s.extra)) (Some s) (and_then (dry_run_gate rows root s gate) (weigh_until rows root most gates)) ends) ∙ h) in
      absurd (omega (arith, few, leb-true most (length s.extra) ends, ap (λ (r : Searched). length r.extra) same))
  | inr more ↦
      let parts = then_some (dry_run_gate rows root s gate) (weigh_until rows root most gates) t
      (sym (cond-false (nat_le most (length s.extra)) (Some s) (and_then (dry_run_gate rows root s gate) (weigh_until rows root most gates)) more) ∙ h) in
      ap (λ (o : Option Searched). and_then o (dry_run_gates rows root gates)) parts.1 ∙ all_weighed rows root most gates parts.0 t parts.2 few
]

-- so a whole plan was weighed
pub whole_weight : (rows : List Row) (root most : ℕ) (r : Replacement) (s : Searched) → IsWeightUntil rows root most r s → length s.extra < most → IsWeightOf rows root r s
whole_weight rows root most r s is few = all_weighed rows root most r.gates (state (constant ∷ leaf_literals r.count r.leaves) []) s is few

-- ---- the leaves
pub each_is : (n : ℕ) (f : ℕ → Lit) (i : ℕ) → i < n → get_or (each_below n f) i constant ≡ f i
each_is zero f i lt = absurd (omega (arith, lt))
each_is (suc n) f i lt = elim (cases_lt i n) [
  | inl less ↦ get_or_append_left (each_below n f) (f n ∷ []) constant i (omega (arith, less, each_long n f)) ∙ each_is n f i less
  | inr ge ↦ let last : n ≡ i = omega (arith, lt, ge) in get_or_push (each_below n f) (f n) constant i (each_long n f ∙ last) ∙ ap f last
]

above : (under : ℕ) (ns : List ℕ) → rise_above under ns ≡ true → (i : ℕ) → i < length ns → under < get_or ns i 0
above under [] h i lt = absurd (omega (arith, lt))
above under (n ∷ ns) h zero lt = ltb-true under n (and_parts (nat_lt under n) (rise_above n ns) h).0
above under (n ∷ ns) h (suc i) lt =
    let parts = and_parts (nat_lt under n) (rise_above n ns) h in
    omega (arith, ltb-true under n parts.0, above n ns parts.1 i (omega (arith, lt)))

rise : (under : ℕ) (ns : List ℕ) → rise_above under ns ≡ true → (i j : ℕ) → i < j → j < length ns → get_or ns i 0 < get_or ns j 0
rise under [] h i j less lt = absurd (omega (arith, lt))
rise under (n ∷ ns) h i zero less lt = absurd (omega (arith, less))
rise under (n ∷ ns) h zero (suc j) less lt = above n ns (and_parts (nat_lt under n) (rise_above n ns) h).1 j (omega (arith, lt))
rise under (n ∷ ns) h (suc i) (suc j) less lt = rise n ns (and_parts (nat_lt under n) (rise_above n ns) h).1 i j (omega (arith, less)) (omega (arith, lt))

module _ (rows : List Row) (root : ℕ) (leaves : List ℕ) (named count : ℕ) (becomes : ℕ → ℕ) (levels : ℕ) (positive : 0 < root) (low : root ≤ length rows) (order : InOrder rows) (few : named < 1 + count)
    (apart : are_apart levels rows leaves ≡ true) (rising : rise_above 0 leaves ≡ true) (under : are_below root leaves ≡ true) (there : named ≤ length leaves) where
  abbrev literals : List Lit
  literals = constant ∷ leaf_literals count leaves

  leaf_is : (i : ℕ) → i < named → get_or literals (suc i) constant ≡ lit_of (get_or leaves i 0)
  leaf_is i lt = each_is count (λ k. lit_of (get_or leaves k 0)) i (omega (arith, lt, few))

  -- an index in use before any gate is a leaf's
  as_leaf : (i : ℕ) → is_in_use named (1 + count) 0 i ≡ true → (k : ℕ) × (i ≡ suc k) × (k < named)
  as_leaf i h = elim (in_parts named (1 + count) 0 i h) [
    | inl leaf ↦ (i - 1, omega (arith, leaf.0), omega (arith, leaf.0, leaf.1))
    | inr (g, lt, is) ↦ absurd (omega (arith, lt))
  ]

  node_is : (i k : ℕ) → i ≡ suc k → k < named → node_at literals i ≡ get_or leaves k 0
  node_is i k e lt = ap (node_at literals) e ∙ ap node_of (leaf_is k lt) ∙ plain_node (get_or leaves k 0)
    where
      plain_node : (n : ℕ) → node_of (lit_of n) ≡ n
      plain_node n = omega arith

  begun_spread : IsSpread rows root leaves named (1 + count) becomes levels positive low order few apart [] (state literals [])
  begun_spread = record {
    plain = λ i h. let k = as_leaf i h in ap (λ (j : ℕ). get_or literals j constant) k.1 ∙ leaf_is k.0 k.2 ∙ ap lit_of (sym (node_is i k.0 k.1 k.2));
    some = λ i h z. let k = as_leaf i h in absurd (omega (arith, z, node_is i k.0 k.1 k.2, above 0 leaves rising k.0 (omega (arith, k.2, there))));
    differ = λ i j h g same. let k = as_leaf i h in let l = as_leaf j g in differ_by i j k l same;
    made = λ i h lt. let k = as_leaf i h in subst (IsMade rows root leaves named (1 + count) becomes levels positive low order few apart) (sym (node_is i k.0 k.1 k.2)) (leaf_made k.0 (omega (arith, k.2, there)));
    leaf = λ i some le.
        let at : i - 1 < length leaves = omega (arith, some, le, there) in
        subst (λ (m : ℕ). (has_node leaves m ≡ true) × (m < length rows)) (sym (node_is i (i - 1) (omega (arith, some)) (omega (arith, some, le)))) (has_at leaves (i - 1) (get_or leaves (i - 1) 0) at refl, omega (arith, below_each root leaves under (i - 1) at, low));
    stand = λ g d lt. absurd (omega (arith, lt));
    olds = λ g d lt. absurd (omega (arith, lt));
  }
    where
      differ_by : (i j : ℕ) → (k : ℕ) × (i ≡ suc k) × (k < named) → (l : ℕ) × (j ≡ suc l) × (l < named) → node_at literals i ≡ node_at literals j → becomes i ≡ becomes j
      differ_by i j (k, i_is, k_in) (l, j_is, l_in) same =
          let nodes : get_or leaves k 0 ≡ get_or leaves l 0 = sym (node_is i k i_is k_in) ∙ same ∙ node_is j l j_is l_in in
          elim (cases_lt k l) [
            | inl less ↦ absurd (omega (arith, nodes, rise 0 leaves rising k l less (omega (arith, l_in, there))))
            | inr ge ↦ elim (cases_lt l k) [
              | inl less ↦ absurd (omega (arith, nodes, rise 0 leaves rising l k less (omega (arith, k_in, there))))
              | inr le ↦ let one : i ≡ j = omega (arith, ge, le, i_is, j_is) in ap becomes one
            ]
          ]

      leaf_made : (k : ℕ) → k < length leaves → IsMade rows root leaves named (1 + count) becomes levels positive low order few apart (get_or leaves k 0)
      leaf_made k lt = record { least_first = from_least k lt; each = each }
        where
          from_least : (k : ℕ) → k < length leaves → get_or leaves 0 0 ≤ get_or leaves k 0
          from_least zero lt = omega arith
          from_least (suc k) lt = omega (arith, rise 0 leaves rising 0 (suc k) (omega arith) lt)

          each : (d : ℕ) → may_be_made rows leaves d (get_or leaves k 0) ≡ true
          each zero = le-leb (get_or leaves 0 0) (get_or leaves k 0) (from_least k lt)
          each (suc d) =
              and_from (nat_le (get_or leaves 0 0) (get_or leaves k 0)) (has_node leaves (get_or leaves k 0) || joins (may_be_made rows leaves d) (row_at rows (get_or leaves k 0)))
              (le-leb (get_or leaves 0 0) (get_or leaves k 0) (from_least k lt))
              (or_left (has_node leaves (get_or leaves k 0)) (joins (may_be_made rows leaves d) (row_at rows (get_or leaves k 0))) (has_at leaves k (get_or leaves k 0) lt refl))

-- Where leaves and gates stand apart, what a plan becomes until so many new rows stand goes on to what it becomes, with no fewer.
pub weighed_on : (rows : List Row) (r : Replacement) (named : ℕ) (becomes : ℕ → ℕ) (levels most : ℕ) (t : Searched) → 0 < r.root → r.root ≤ length rows → are_below r.root r.leaves ≡ true → InOrder rows
    → named ≤ r.count → ((i : ℕ) (gate : PLit × PLit) → i < length r.gates → StandsApart named (1 + r.count) becomes (take i r.gates) (get_or r.gates i gate))
    → named ≤ length r.leaves → rise_above 0 r.leaves ≡ true → are_apart levels rows r.leaves ≡ true → IsWeightUntil rows r.root most r t
    → (u : Searched) × IsWeightOf rows r.root r u × (length t.extra ≤ length u.extra)
weighed_on rows r named becomes levels most t positive low below order le stand there rising apart h =
    goes_on_from rows r.root r.leaves named (1 + r.count) becomes levels positive low order (omega (arith, le)) apart most r.gates [] (state (constant ∷ leaf_literals r.count r.leaves) []) t
    (subst (λ (base : ℕ). IsTold (length rows) base [] (state (constant ∷ leaf_literals r.count r.leaves) [])) long (begun_told (length rows) r.root r.count r.leaves positive low below))
    (begun_spread rows r.root r.leaves named r.count becomes levels positive low order (omega (arith, le)) apart rising below there) stand h
  where
    long : length (constant ∷ leaf_literals r.count r.leaves) ≡ 1 + r.count
    long = omega (arith, each_long r.count (λ i. lit_of (get_or r.leaves i 0)))
