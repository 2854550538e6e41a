-- What placing tells of gates that each need a row: a gate with a new literal becomes a new row, which refers to it.
use Rattle.std.proofs.Common.{◌≡◌, ◌≢◌, ◌⊎◌, ℕ, zero, suc, ◌+◌, ◌-◌, ◌%◌, ◌<◌, ◌≤◌, ◌&&◌, ◌==◌, if◌then◌else◌, true, List, [], ◌∷◌, ◌++◌, length, get_or, Option, Some, None, refl, sym, ap, ◌∙◌, subst, arith, inl, inr}
use Rattle.std.proofs.lemmas.Bool.{cases_lt, cond_both, and_from, or_left, eq-eqb}
use Rattle.std.proofs.lemmas.List.{append-nil, append_assoc, get_or_append_left, get_or_push, get_or_past, length_push}
use Rattle.syn_rows.specs.declared.Lit.{Lit}
use Rattle.syn_rows.specs.declared.Row.{Row}
use Rattle.syn_rows.specs.declared.Row.TheVariants.{Free}
use Rattle.syn_rows.specs.Rows.{InOrder, node_of, row_at}
use Rattle.syn_rows.specs.Joining.{complement, constant, is_and_of, lit_of, ordered_and, simple_and}
use Rattle.syn_rows.proofs.JoinLaws.{complement_node, none_needs}
use Rattle.syn_hashed.proofs.Looking.{ordered_is}
use Rattle.syn_fanout_free.proofs.Pointwise.{at_ref}
use Rattle.syn_plan.specs.declared.PLit.{PLit}
use Rattle.syn_plan.specs.Gates.{index_of}
use Rattle.syn_gain.specs.Laws.{IsBefore, IsPlacing}
use Rattle.syn_gain.specs.Leaves.{are_below}
use Rattle.syn_gain.specs.Placing.{each_below, leaf_literals, literal_for}
use Rattle.syn_gain.specs.Replacements.{Replacement}
use Rattle.syn_gain.specs.Searching.{Searched, search_gate, search_gates, searched, state, with_pair}
use Rattle.syn_gain.proofs.Bounds.{OfSome, begun_in, below_each, each_push, joined_by}
use Rattle.syn_gain.proofs.Fresh.{pair_refers}
use Rattle.syn_weighing.specs.Weighing.{IsWeightOf, and_then, dry_run_gate, dry_run_gates, where_needed}

-- ---- literals and pairs

-- the node that an index became
abbrev pub node_at : List Lit → ℕ → ℕ
node_at literals i = node_of (get_or literals i constant)

pub for_node : (literals : List Lit) (p : PLit) → node_of (literal_for literals p) ≡ node_at literals (index_of p)
for_node literals p =
    cond_both (p.0 % 2 == 0) (get_or literals (index_of p) constant) (complement (get_or literals (index_of p) constant)) (λ (t : Lit). node_of t ≡ node_at literals (index_of p))
    (λ _. refl) (λ _. complement_node (get_or literals (index_of p) constant))

-- an index that has a node is there
pub is_there : (literals : List Lit) (i : ℕ) → node_at literals i ≢ 0 → i < length literals
is_there literals i some = elim (cases_lt i (length literals)) [
  | inl lt ↦ lt
  | inr ge ↦ absurd (some (ap node_of (get_or_past literals i constant ge)))
]

-- the literal of a plan's literal stays where another is added
pub for_pushed : (literals : List Lit) (l : Lit) (p : PLit) → node_of (literal_for literals p) ≢ 0 → literal_for (literals ++ l ∷ []) p ≡ literal_for literals p
for_pushed literals l p some =
    ap (λ (t : Lit). if p.0 % 2 == 0 then t else complement t) (get_or_append_left literals (l ∷ []) constant (index_of p) (is_there literals (index_of p) (λ e. some (for_node literals p ∙ e))))

pair_itself : (x y : Lit) → is_and_of x y (ordered_and x y) ≡ true
pair_itself x y = ordered_is x y x y ∙ or_left (x.0 == x.0 && y.0 == y.0) (x.0 == y.0 && y.0 == x.0) (and_from (x.0 == x.0) (y.0 == y.0) (eq-eqb x.0 x.0 refl) (eq-eqb y.0 y.0 refl))

-- ---- what is told
pub record IsTold (first base : ℕ) (done : List (PLit × PLit)) (s : Searched) : Type 0 where
  pub long : length s.literals ≡ base + length done
  pub below : (i : ℕ) → node_at s.literals i < first + length s.extra
  pub some : (g : ℕ) (d : PLit × PLit) → g < length done → (node_of (literal_for s.literals (get_or done g d).0) ≢ 0) × (node_of (literal_for s.literals (get_or done g d).1) ≢ 0)
  pub rows : (g : ℕ) (d : PLit × PLit) → g < length done → first ≤ node_at s.literals (base + g)
      → is_and_of (literal_for s.literals (get_or done g d).0) (literal_for s.literals (get_or done g d).1) (row_at s.extra (node_at s.literals (base + g) - first)) ≡ true
  pub from : (j : ℕ) → j < length s.extra → (g : ℕ) × (g < length done) × (node_at s.literals (base + g) ≡ first + j)
  pub news : (g : ℕ) (d : PLit × PLit) → g < length done
      → (first ≤ node_of (literal_for s.literals (get_or done g d).0)) ⊎ (first ≤ node_of (literal_for s.literals (get_or done g d).1)) → first ≤ node_at s.literals (base + g)

-- what holds of each gate, and of one more
pub each_gate : (Q : ℕ → PLit × PLit → Type 0) (done : List (PLit × PLit)) (gate : PLit × PLit) → ((g : ℕ) (d : PLit × PLit) → g < length done → Q g (get_or done g d)) → Q (length done) gate
    → (g : ℕ) (d : PLit × PLit) → g < length (done ++ gate ∷ []) → Q g (get_or (done ++ gate ∷ []) g d)
each_gate Q done gate old here g d lt = elim (cases_lt g (length done)) [
  | inl less ↦ subst (Q g) (sym (get_or_append_left done (gate ∷ []) d g less)) (old g d less)
  | inr ge ↦
      let e : length done ≡ g = omega (arith, length_push done gate) in
      subst (Q g) (sym (get_or_push done gate d g e)) (subst (λ (k : ℕ). Q k gate) e here)
]

-- ---- one gate more
module _ (first base : ℕ) (done : List (PLit × PLit)) (s : Searched) (told : IsTold first base done s) (gate : PLit × PLit) (some_x : node_of (literal_for s.literals gate.0) ≢ 0) (some_y : node_of (literal_for s.literals gate.1) ≢ 0) where
  abbrev x : Lit
  x = literal_for s.literals gate.0

  abbrev y : Lit
  y = literal_for s.literals gate.1

  -- its literal, and the new rows with it: the others as they were
  module _ (l : Lit) (extra : List Row) (longer : length s.extra ≤ length extra) (same : (i : ℕ) → i < length s.extra → row_at extra i ≡ row_at s.extra i) (under : node_of l < first + length extra) where
    abbrev now : List Lit
    now = s.literals ++ l ∷ []

    gate_old : (g : ℕ) → g < length done → get_or now (base + g) constant ≡ get_or s.literals (base + g) constant
    gate_old g lt = get_or_append_left s.literals (l ∷ []) constant (base + g) (omega (arith, lt, told.long))

    gate_new : get_or now (base + length done) constant ≡ l
    gate_new = get_or_push s.literals l constant (base + length done) told.long

    for_old : (g : ℕ) (d : PLit × PLit) → g < length done
        → (literal_for now (get_or done g d).0 ≡ literal_for s.literals (get_or done g d).0) × (literal_for now (get_or done g d).1 ≡ literal_for s.literals (get_or done g d).1)
    for_old g d lt = (for_pushed s.literals l (get_or done g d).0 (told.some g d lt).0, for_pushed s.literals l (get_or done g d).1 (told.some g d lt).1)

    old_rows : (g : ℕ) (d : PLit × PLit) → g < length done → first ≤ node_at now (base + g)
        → is_and_of (literal_for now (get_or done g d).0) (literal_for now (get_or done g d).1) (row_at extra (node_at now (base + g) - first)) ≡ true
    old_rows g d lt new =
        let at = ap node_of (gate_old g lt) in
        let row : row_at extra (node_at now (base + g) - first) ≡ row_at s.extra (node_at s.literals (base + g) - first) =
        ap (λ (k : ℕ). row_at extra (k - first)) at ∙ same (node_at s.literals (base + g) - first) (omega (arith, new, at, told.below (base + g))) in
        ap (λ (r : Row). is_and_of (literal_for now (get_or done g d).0) (literal_for now (get_or done g d).1) r) row
        ∙ ap (λ (t : Lit). is_and_of t (literal_for now (get_or done g d).1) (row_at s.extra (node_at s.literals (base + g) - first))) (for_old g d lt).0
        ∙ ap (λ (t : Lit). is_and_of (literal_for s.literals (get_or done g d).0) t (row_at s.extra (node_at s.literals (base + g) - first))) (for_old g d lt).1
        ∙ told.rows g d lt (omega (arith, new, at))

    with_literal : (first ≤ node_of l → is_and_of x y (row_at extra (node_of l - first)) ≡ true) → ((first ≤ node_of x) ⊎ (first ≤ node_of y) → first ≤ node_of l)
        → ((j : ℕ) → length s.extra ≤ j → j < length extra → node_of l ≡ first + j) → IsTold first base (done ++ gate ∷ []) (state now extra)
    with_literal row up last = record {
      long = omega (arith, told.long, length_push s.literals l, length_push done gate);
      below = each_push (λ _ t. node_of t < first + length extra) s.literals l constant (λ i. omega (arith, told.below i, longer)) under;
      some = each_gate (λ g h. (node_of (literal_for now h.0) ≢ 0) × (node_of (literal_for now h.1) ≢ 0)) done gate
          (λ g d lt. ((λ e. (told.some g d lt).0 (sym (ap node_of (for_old g d lt).0) ∙ e)), (λ e. (told.some g d lt).1 (sym (ap node_of (for_old g d lt).1) ∙ e))))
          ((λ e. some_x (sym (ap node_of (for_pushed s.literals l gate.0 some_x)) ∙ e)), (λ e. some_y (sym (ap node_of (for_pushed s.literals l gate.1 some_y)) ∙ e)));
      rows = each_gate (λ g h. first ≤ node_at now (base + g) → is_and_of (literal_for now h.0) (literal_for now h.1) (row_at extra (node_at now (base + g) - first)) ≡ true) done gate old_rows
          (λ new.
          ap (λ (t : Lit). is_and_of t (literal_for now gate.1) (row_at extra (node_at now (base + length done) - first))) (for_pushed s.literals l gate.0 some_x)
          ∙ ap (λ (t : Lit). is_and_of x t (row_at extra (node_at now (base + length done) - first))) (for_pushed s.literals l gate.1 some_y)
          ∙ ap (λ (t : Lit). is_and_of x y (row_at extra (node_of t - first))) gate_new ∙ row (omega (arith, new, ap node_of gate_new)));
      from = λ j lt. elim (cases_lt j (length s.extra)) [
        | inl less ↦ let at = told.from j less in (at.0, omega (arith, at.1, length_push done gate), ap node_of (gate_old at.0 at.1) ∙ at.2)
        | inr ge ↦ (length done, omega (arith, length_push done gate), ap node_of gate_new ∙ last j ge lt)
      ];
      news = each_gate (λ g h. (first ≤ node_of (literal_for now h.0)) ⊎ (first ≤ node_of (literal_for now h.1)) → first ≤ node_at now (base + g)) done gate
          (λ g d lt e. subst (λ (t : Lit). first ≤ node_of t) (sym (gate_old g lt)) (told.news g d lt (elim e [
            | inl a ↦ inl (subst (λ (t : Lit). first ≤ node_of t) (for_old g d lt).0 a)
            | inr b ↦ inr (subst (λ (t : Lit). first ≤ node_of t) (for_old g d lt).1 b)
          ])))
          (λ e. subst (λ (t : Lit). first ≤ node_of t) (sym gate_new) (up (elim e [
            | inl a ↦ inl (subst (λ (t : Lit). first ≤ node_of t) (for_pushed s.literals l gate.0 some_x) a)
            | inr b ↦ inr (subst (λ (t : Lit). first ≤ node_of t) (for_pushed s.literals l gate.1 some_y) b)
          ])));
    }

-- a gate that needs a row
pub step : (rows : List Row) (root base : ℕ) (done : List (PLit × PLit)) (s : Searched) (gate : PLit × PLit) → root ≤ length rows → InOrder rows → IsTold (length rows) base done s
    → simple_and (literal_for s.literals gate.0) (literal_for s.literals gate.1) ≡ None → IsTold (length rows) base (done ++ gate ∷ []) (search_gate rows root s gate)
step rows root base done s gate low order told none =
    joined_by (λ j. IsTold first base (done ++ gate ∷ []) (with_pair s.literals j)) rows root s.extra a b
    (subst (OfSome (λ l. IsTold first base (done ++ gate ∷ []) (with_pair s.literals (record { literal = l; extra = s.extra })))) (sym none) tt)
    (λ n lt h.
    let r = pair_refers a b (row_at rows n) h in
    let under : node_of (lit_of n) < first = omega (arith, lt, low) in
    more (lit_of n) s.extra (omega arith) (λ i _. refl) (omega (arith, under)) (λ new. absurd (omega (arith, new, under)))
    (λ e. absurd (elim e [
      | inl new ↦ omega (arith, new, lt, low, at_ref (λ m. m < n) (row_at rows n) (order n) (node_of a) r.0)
      | inr new ↦ omega (arith, new, lt, low, at_ref (λ m. m < n) (row_at rows n) (order n) (node_of b) r.1)
    ]))
    (λ j ge lt. absurd (omega (arith, ge, lt))))
    (λ i lt h.
    let node : node_of (lit_of (first + i)) ≡ first + i = omega arith in
    let place : node_of (lit_of (first + i)) - first ≡ i = omega arith in
    more (lit_of (first + i)) s.extra (omega arith) (λ k _. refl) (omega (arith, node, lt)) (λ _. ap (λ (k : ℕ). is_and_of a b (row_at s.extra k)) place ∙ h) (λ _. omega (arith, node))
    (λ j ge less. absurd (omega (arith, ge, less))))
    (let row = ordered_and a b in
    let l = lit_of (first + length s.extra) in
    let node : node_of l ≡ first + length s.extra = omega arith in
    let place : node_of l - first ≡ length s.extra = omega arith in
    more l (s.extra ++ row ∷ []) (omega (arith, length_push s.extra row)) (λ i lt. get_or_append_left s.extra (row ∷ []) Free i lt) (omega (arith, node, length_push s.extra row))
    (λ _. ap (λ (k : ℕ). is_and_of a b (row_at (s.extra ++ row ∷ []) k)) place ∙ ap (is_and_of a b) (get_or_push s.extra row Free (length s.extra) refl) ∙ pair_itself a b)
    (λ _. omega (arith, node))
    (λ j ge lt. omega (arith, node, ge, lt, length_push s.extra row)))
  where
    first : ℕ
    first = length rows

    a : Lit
    a = literal_for s.literals gate.0

    b : Lit
    b = literal_for s.literals gate.1

    more : (l : Lit) (extra : List Row) → length s.extra ≤ length extra → ((i : ℕ) → i < length s.extra → row_at extra i ≡ row_at s.extra i) → node_of l < first + length extra
        → (first ≤ node_of l → is_and_of a b (row_at extra (node_of l - first)) ≡ true) → ((first ≤ node_of a) ⊎ (first ≤ node_of b) → first ≤ node_of l)
        → ((j : ℕ) → length s.extra ≤ j → j < length extra → node_of l ≡ first + j) → IsTold first base (done ++ gate ∷ []) (state (s.literals ++ l ∷ []) extra)
    more =
        let need = none_needs a b none in
        with_literal first base done s told gate (λ e. omega (arith, e, need.first)) (λ e. omega (arith, e, need.second))

-- ---- all gates
pub some_is : (s t : Searched) → Some s ≡ Some t → s ≡ t
some_is s t e = ap (or_other s) e
  where
    or_other : Searched → Option Searched → Searched
    or_other d None = d
    or_other d (Some u) = u

pub needed : (o : Option Lit) (s t : Searched) → where_needed o s ≡ Some t → (o ≡ None) × (s ≡ t)
needed None s t h = (refl, some_is s t h)
needed (Some l) s t h = absurd (cc (h))

pub then_some : (o : Option Searched) (next : Searched → Option Searched) (t : Searched) → and_then o next ≡ Some t → (s : Searched) × (o ≡ Some s) × (next s ≡ Some t)
then_some None next t h = absurd (cc (h))
then_some (Some s) next t h = (s, refl, h)

gates_told : (rows : List Row) (root base : ℕ) (gates done : List (PLit × PLit)) (s last : Searched) → root ≤ length rows → InOrder rows
    → IsTold (length rows) base done s → dry_run_gates rows root gates s ≡ Some last → (search_gates rows root s gates ≡ last) × IsTold (length rows) base (done ++ gates) last
gates_told rows root base [] done s last low order told h =
    let same = some_is s last h in
    (same, subst (λ (t : Searched). IsTold (length rows) base (done ++ []) t) same (subst (λ (gs : List (PLit × PLit)). IsTold (length rows) base gs s) (sym (append-nil done)) told))
gates_told rows root base (gate ∷ gates) done s last low order told h =
    let parts = then_some (dry_run_gate rows root s gate) (dry_run_gates rows root gates) last h in
    let need = needed (simple_and (literal_for s.literals gate.0) (literal_for s.literals gate.1)) (search_gate rows root s gate) parts.0 parts.1 in
    let next = subst (λ (t : Searched). IsTold (length rows) base (done ++ gate ∷ []) t) need.1 (step rows root base done s gate low order told need.0) in
    let rest = gates_told rows root base gates (done ++ gate ∷ []) parts.0 last low order next parts.2 in
    (ap (λ (t : Searched). search_gates rows root t gates) need.1 ∙ rest.0, subst (λ (gs : List (PLit × PLit)). IsTold (length rows) base gs last) (append_assoc done (gate ∷ []) gates) rest.1)

-- the constant and the leaves
pub begun_told : (first root count : ℕ) (leaves : List ℕ) → 0 < root → root ≤ first → are_below root leaves ≡ true → IsTold first (length (constant ∷ leaf_literals count leaves)) [] (state (constant ∷ leaf_literals count leaves) [])
begun_told first root count leaves positive low under = record {
  long = omega arith;
  below = λ i. at_end (node_at (constant ∷ leaf_literals count leaves) i) (within.literals_before i);
  some = λ g d lt. absurd (omega arith);
  rows = λ g d lt. absurd (omega arith);
  from = λ j lt. absurd (omega arith);
  news = λ g d lt. absurd (omega arith);
}
  where
    within : IsPlacing root first (constant ∷ leaf_literals count leaves) []
    within = begun_in first root count leaves positive (below_each root leaves under)

    at_end : (m : ℕ) → IsBefore root first (first + length {A = Row} []) m → m < first + 0
    at_end m (inl less) = omega (arith, less, low)
    at_end m (inr new) = omega (arith, new.1)

pub each_long : {A : Type 0} (n : ℕ) (f : ℕ → A) → length (each_below n f) ≡ n
each_long zero f = refl
each_long (suc n) f = omega (arith, length_push (each_below n f) (f n), each_long n f)

-- what is weighed is what is placed
pub weighed_told : (rows : List Row) (r : Replacement) (s : Searched) → 0 < r.root → r.root ≤ length rows → are_below r.root r.leaves ≡ true → InOrder rows → IsWeightOf rows r.root r s
    → (searched rows r.root r.count r.leaves r.gates ≡ s) × IsTold (length rows) (1 + r.count) r.gates s
weighed_told rows r s positive low under order is =
    let start = subst (λ (base : ℕ). IsTold (length rows) base [] (state (constant ∷ leaf_literals r.count r.leaves) [])) long (begun_told (length rows) r.root r.count r.leaves positive low under) in
    gates_told rows r.root (1 + r.count) r.gates [] (state (constant ∷ leaf_literals r.count r.leaves) []) s low order start is
  where
    long : length (constant ∷ leaf_literals r.count r.leaves) ≡ 1 + r.count
    long = omega (arith, each_long r.count (λ i. lit_of (get_or r.leaves i 0)))
