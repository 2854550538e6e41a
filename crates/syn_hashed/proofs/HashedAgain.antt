-- Rows hashed again: what a node's row gives stays, and rows by other numbers are such rows.
use Rattle.std.proofs.Common.{◌≡◌, ◌≢◌, ◌⊎◌, ℕ, zero, suc, ◌+◌, ◌-◌, ◌*◌, ◌%◌, ◌<◌, ◌≤◌, ◌&&◌, nat_eq, nat_lt, if◌then◌else◌, Bool, true, false, All, List, [], ◌∷◌, ◌++◌, length, get_or, map, set, Option, Some, None, IfSome, refl, sym, ap, ap₂, ◌∙◌, subst, subst₂, append-nil, arith, inl, inr}
use Rattle.std.proofs.lemmas.Bool.{and_from, and_parts, cases_Bool, cases_eq, cases_lt, cond_both, cond-true, cond-false, eq-eqb, eqb-true, eqb-false, lt-ltb, ltb-true, or_right}
use Rattle.std.proofs.lemmas.List.{get_or_append_left, get_or_push, get_or-set_other, get_or-set_same, length_push}
use Rattle.std.proofs.lemmas.List.Elements.{All-head, All-tail}
use Rattle.syn_rows.specs.declared.Lit.{Lit}
use Rattle.syn_rows.specs.declared.Row.{Row}
use Rattle.syn_rows.specs.declared.Row.TheVariants.{Free, Source, And, Alias}
use Rattle.syn_rows.specs.Reach.{IsReachedSet}
use Rattle.syn_rows.specs.Rows.{node_of, row_at, AllRefs}
use Rattle.syn_rows.proofs.Folds.{AllRefs-weaker}
use Rattle.syn_rows.specs.Joining.{lit_of, is_and_of, ordered_and, simple_and}
use Rattle.syn_rows.proofs.JoinLaws.{NeedRow, needs_none, same_lit}
use Rattle.syn_hashed.specs.Hashed.{is_gate, IsHashed}
use Rattle.syn_hashed.specs.Growing.{Extends}
use Rattle.syn_hashed.specs.Joined.{PairsOnce, or_else, literal_below, literal_there, lit_or_new, rows_or_new, joined_lit, joined_rows}
use Rattle.syn_hashed.specs.Visiting.{IsVisit, StaysVisited, visited, with_sign, literal_of}
use Rattle.syn_hashed.specs.Compacting.{is_kept, kept_below, kept_lits, kept_rows, moved_lit, moved_row}
use Rattle.syn_hashed.specs.Renumbering.{IsRenumbering}
use Rattle.syn_hashed.specs.HashedAgain.{IsHashedAgain, IsHashedRow, IsHashing, literal_by}
use Rattle.syn_hashed.proofs.Dropped.{IsKeeping, gate_is_and, kept_closed, kept_hashed}
use Rattle.syn_hashed.proofs.Kept.{below_rises, kept_at, kept_there}
use Rattle.syn_hashed.proofs.Orders.{hashed_in_order}
use Rattle.syn_hashed.proofs.Looking.{found_below, gate_needs, hashed_pairs_once, in_order, is_ordered}
use Rattle.syn_hashed.proofs.Rising.{extends_longer}
use Rattle.syn_hashed.proofs.Visits.{sign_parts, stays_more}

-- ---- the literal of a pair that is there

-- the first of two that is there is one or the other
or_parts : (s o : Option Lit) (l : Lit) → or_else s o ≡ Some l → (s ≡ Some l) ⊎ ((s ≡ None) × (o ≡ Some l))
or_parts (Some k) o l e = inl e
or_parts None o l e = inr (refl, e)

some_lit : (k l : Lit) → Some k ≡ Some l → k ≡ l
some_lit k l e = cc

-- which row is found
below_is : (rows : List Row) (bound : ℕ) (x y l : Lit) → literal_below rows bound x y ≡ Some l → (n : ℕ) × (n < bound) × (is_and_of x y (row_at rows n) ≡ true) × (l ≡ lit_of n)
below_is rows zero x y l e = absurd (cc)
below_is rows (suc b) x y l e = elim (cases_Bool (is_and_of x y (row_at rows b))) [
  | inl t ↦ (b, omega arith, t, sym (some_lit (lit_of b) l (sym (cond-true (is_and_of x y (row_at rows b)) (Some (lit_of b)) (literal_below rows b x y) t) ∙ e)))
  | inr f ↦
      let (n, lt, is, at) = below_is rows b x y l (sym (cond-false (is_and_of x y (row_at rows b)) (Some (lit_of b)) (literal_below rows b x y) f) ∙ e) in
      (n, omega (arith, lt), is, at)
]

old_row : (new more : List Row) (n : ℕ) → Extends new more → n < length new → row_at more n ≡ row_at new n
old_row new more n grown lt = ap (λ (rs : List Row). row_at rs n) grown.is ∙ get_or_append_left new grown.more Free n lt

-- it stays in rows that grow
pub still_there : (count : ℕ) (new more : List Row) → IsHashed count more → Extends new more → (x y l : Lit) → literal_there new x y ≡ Some l → literal_there more x y ≡ Some l
still_there count new more h grown x y l e = elim (or_parts (simple_and x y) (literal_below new (length new) x y) l e) [
  | inl s ↦ ap (λ (o : Option Lit). or_else o (literal_below more (length more) x y)) s
  | inr both ↦
      let (n, lt, is, at) = below_is new (length new) x y l both.1 in
      let longer = extends_longer new more grown in
      let pairs = hashed_pairs_once count more h in
      let row : row_at more n ≡ ordered_and x y = is_ordered more pairs x y n (ap (is_and_of x y) (old_row new more n grown lt) ∙ is) in
      ap₂ or_else both.0 (sym (found_below more pairs (length more) x y n row (omega (arith, lt, longer)) l (ap (λ (k : Lit). k.0) at)))
]

-- the row of a pair gives it
pub row_there : (count : ℕ) (new : List Row) (n : ℕ) (x y : Lit) → IsHashed count new → count < n → n < length new → row_at new n ≡ ordered_and x y → literal_there new x y ≡ Some (lit_of n)
row_there count new n x y h above lt row =
    ap₂ or_else (needs_none x y needs) (sym (found_below new (hashed_pairs_once count new h) (length new) x y n row lt (lit_of n) refl))
  where
    turned : NeedRow y x → NeedRow x y
    turned needs = record { apart = λ e. needs.apart (sym e); first = needs.second; second = needs.first }

    needs : NeedRow x y
    needs =
        cond_both (nat_lt x.0 y.0) (And x y) (And y x) (λ (r : Row). is_gate n r ≡ true → NeedRow x y) (λ _ g. gate_needs n x y g) (λ _ g. turned (gate_needs n y x g))
        (ap (is_gate n) (sym row) ∙ h.gates n above lt)

-- what two are joined to is there
pub joined_there : (count : ℕ) (rows : List Row) (x y : Lit) → IsHashed count (joined_rows rows x y) → count < length rows → literal_there (joined_rows rows x y) x y ≡ Some (joined_lit rows x y)
joined_there count rows x y h behind = by (literal_there rows x y) refl h
  where
    by : (o : Option Lit) → literal_there rows x y ≡ o → IsHashed count (rows_or_new rows (ordered_and x y) o) → literal_there (rows_or_new rows (ordered_and x y) o) x y ≡ Some (lit_or_new rows o)
    by (Some l) e hashed = e
    by None e hashed = row_there count (rows ++ ordered_and x y ∷ []) (length rows) x y hashed behind (omega (arith, length_push rows (ordered_and x y))) (get_or_push rows (ordered_and x y) Free (length rows) refl)

-- ---- what a node's row gives

pub stays_by : (old new : ℕ → Option Lit) → ((n : ℕ) (l : Lit) → old n ≡ Some l → new n ≡ Some l) → (a x : Lit) → literal_by old a ≡ Some x → literal_by new a ≡ Some x
stays_by old new stays a x e =
    let (l, at, signed) = sign_parts a (old (node_of a)) x e in
    ap (with_sign a) (stays (node_of a) l at) ∙ signed

pub row_more : (count : ℕ) (old new : ℕ → Option Lit) (rows more : List Row) → ((n : ℕ) (l : Lit) → old n ≡ Some l → new n ≡ Some l) → IsHashed count more → Extends rows more
    → (row : Row) (l : Lit) → IsHashedRow old rows row l → IsHashedRow new more row l
row_more count old new rows more stays h grown Free l is = is
row_more count old new rows more stays h grown Source l is = is
row_more count old new rows more stays h grown (Alias a) l is = stays_by old new stays a l is
row_more count old new rows more stays h grown (And a b) l (x, y, first, second, there) =
    (x, y, stays_by old new stays a x first, stays_by old new stays b y second, still_there count rows more h grown x y l there)

-- what an alias gives
pub alias_row : (literals : List (Option Lit)) (new : List Row) (row : Row) (a : Lit) (o : Option Lit) → row ≡ Alias a → o ≡ literal_of literals a → IfSome o (IsHashedRow (visited literals) new row)
alias_row literals new row a None is e = tt
alias_row literals new row a (Some l) is e = subst (λ (r : Row). IsHashedRow (visited literals) new r l) (sym is) (sym e)

-- one more node
pub hashing_more : (count : ℕ) (rows : List Row) (literals : List (Option Lit)) (new more : List Row) (n : ℕ) (l : Lit) → IsHashing count rows literals new → IsVisit count rows (set literals n (Some l)) more
    → n < length literals → visited literals n ≡ None → IsHashed count more → Extends new more → IsHashedRow (visited literals) more (row_at rows n) l → IsHashing count rows (set literals n (Some l)) more
hashing_more count rows literals new more n l was visit inside none h grown is = record {
  visit = visit;
  made = λ m k above e. elim (cases_eq m n) [
    | inl same ↦
        let at : l ≡ k = some_lit l k (sym (ap (visited (set literals n (Some l))) same ∙ get_or-set_same literals n (Some l) None inside) ∙ e) in
        subst (λ (p : ℕ). IsHashedRow (visited (set literals n (Some l))) more (row_at rows p) k) (sym same)
        (subst (IsHashedRow (visited (set literals n (Some l))) more (row_at rows n)) at
        (row_more count (visited literals) (visited (set literals n (Some l))) more more stays h (record { more = []; is = sym (append-nil more) }) (row_at rows n) l is))
    | inr other ↦
        row_more count (visited literals) (visited (set literals n (Some l))) new more stays h grown (row_at rows m) k
        (was.made m k above (sym (get_or-set_other literals n m (Some l) None other) ∙ e))
  ];
}
  where
    stays : StaysVisited literals (set literals n (Some l))
    stays = stays_more literals n l none

-- before any
pub hashing_begins : (count : ℕ) (rows : List Row) (literals : List (Option Lit)) (new : List Row) → IsVisit count rows literals new → ((n : ℕ) (l : Lit) → visited literals n ≡ Some l → n < count + 1) → IsHashing count rows literals new
hashing_begins count rows literals new visit few = record { visit = visit; made = λ n l above e. absurd (omega (arith, above, few n l e)) }

-- ---- rows by other numbers

-- renumbered rows
pub renumbered_again : (count : ℕ) (rows : List Row) (literals : List (Option Lit)) (new : List Row) (lits found : List Lit) → IsRenumbering count rows literals new → map (λ l. Some l) found ≡ map (literal_of literals) lits
    → IsHashedAgain count rows lits new found
renumbered_again count rows literals new lits found r named = record {
  stands = visited literals;
  hashed = r.hashed;
  front = r.visit.front;
  made = λ n l above e.
      let moved = r.moved n l above e in
      let there = r.visit.there n l e in
      let at : l ≡ lit_of (node_of l) = same_lit l (lit_of (node_of l)) (r.plain n l e) in
      subst (λ (row : Row). IsHashedRow (visited literals) new row l) (sym moved.is)
      (moved.x, moved.y, moved.first, moved.second, row_there count new (node_of l) moved.x moved.y r.hashed (behind (node_of l) moved.x moved.y moved.row) there moved.row ∙ ap (λ (k : Lit). Some k) (sym at));
  observed = named;
}
  where
    behind : (k : ℕ) (x y : Lit) → row_at new k ≡ ordered_and x y → count < k
    behind k x y e = elim (cases_lt count k) [
      | inl lt ↦ lt
      | inr ge ↦ absurd (no_source x y (sym (r.hashed.front k (omega (arith, ge))) ∙ e))
    ]
      where
        no_source : (x y : Lit) → Source ≡ ordered_and x y → ⊥
        no_source x y = cond_both (nat_lt x.0 y.0) (And x y) (And y x) (λ (row : Row). Source ≡ row → ⊥) (λ _ h. cc) (λ _ h. cc)

-- a literal with its node's new number
signed_place : (lit : Lit) (k : ℕ) (place : ℕ → ℕ) → k ≡ place (node_of lit) → with_sign lit (Some (lit_of k)) ≡ Some (moved_lit place lit)
signed_place lit k place e = elim (cases_Bool (nat_eq (lit.0 % 2) 0)) [
  | inl t ↦
      let even : lit.0 % 2 ≡ 0 = eqb-true (lit.0 % 2) 0 t in
      ap (λ (l : Lit). Some l) (cond-true (nat_eq (lit.0 % 2) 0) (lit_of k) (turned (lit_of k)) t ∙ same_lit (lit_of k) (moved_lit place lit) (omega (arith, e, even)))
  | inr f ↦
      let odd : lit.0 % 2 ≢ 0 = eqb-false (lit.0 % 2) 0 f in
      let up : (turned (lit_of k)).0 ≡ 2 * k + 1 = cond-true (nat_eq ((2 * k) % 2) 0) (2 * k + 1) (2 * k - 1) (eq-eqb ((2 * k) % 2) 0 (omega arith)) in
      ap (λ (l : Lit). Some l) (cond-false (nat_eq (lit.0 % 2) 0) (lit_of k) (turned (lit_of k)) f ∙ same_lit (turned (lit_of k)) (moved_lit place lit) (omega (arith, e, up, odd)))
]
  where
    turned : Lit → Lit
    turned m = record { 0 = if nat_eq (m.0 % 2) 0 then m.0 + 1 else m.0 - 1 }

-- Kept nodes have places in the new rows, where their rows stand, moved.
pub record IsMoving (count : ℕ) (rows : List Row) (lits : List Lit) (keep : ℕ → Bool) (place : ℕ → ℕ) (new : List Row) : Type 0 where
  pub front : (n : ℕ) → n < count + 1 → (keep n ≡ true) × (place n ≡ n)
  pub there : (n : ℕ) → count < n → keep n ≡ true → (n < length rows) × (count < place n) × (place n < length new)
  pub closed : (n : ℕ) → keep n ≡ true → AllRefs (λ m. keep m ≡ true) (row_at rows n)
  pub row : (n : ℕ) → count < n → keep n ≡ true → row_at new (place n) ≡ moved_row place (row_at rows n)
  pub observed : All (λ l. keep (node_of l) ≡ true) lits

pub moved_again : (count : ℕ) (rows new : List Row) (lits : List Lit) (keep : ℕ → Bool) (place : ℕ → ℕ) → IsHashed count rows → IsHashed count new → IsMoving count rows lits keep place new
    → IsHashedAgain count rows lits new (map (moved_lit place) lits)
moved_again count rows new lits keep place old h m = record {
  stands = stands;
  hashed = h;
  front = λ n low. (let at = m.front n low in kept n at.0 ∙ ap (λ (k : ℕ). Some (lit_of k)) at.1);
  made = made;
  observed = all lits m.observed;
}
  where
    stands : ℕ → Option Lit
    stands n = if keep n then Some (lit_of (place n)) else None

    kept : (n : ℕ) → keep n ≡ true → stands n ≡ Some (lit_of (place n))
    kept n k = cond-true (keep n) (Some (lit_of (place n))) None k

    stands_for : (l : Lit) → keep (node_of l) ≡ true → literal_by stands l ≡ Some (moved_lit place l)
    stands_for l k = ap (with_sign l) (kept (node_of l) k) ∙ signed_place l (place (node_of l)) place refl

    is_kept : (n : ℕ) (l : Lit) → stands n ≡ Some l → (keep n ≡ true) × (l ≡ lit_of (place n))
    is_kept n l e = elim (cases_Bool (keep n)) [
      | inl k ↦ (k, sym (some_lit (lit_of (place n)) l (sym (kept n k) ∙ e)))
      | inr k ↦ absurd (clash (sym (cond-false (keep n) (Some (lit_of (place n))) None k) ∙ e))
    ]
      where
        clash : {k : Lit} → None ≡ Some k → ⊥
        clash z = cc

    gate : (n : ℕ) (a b : Lit) → count < n → keep n ≡ true → row_at rows n ≡ And a b → literal_there new (moved_lit place a) (moved_lit place b) ≡ Some (lit_of (place n))
    gate n a b above k is =
        let at = m.there n above k in
        let now : row_at new (place n) ≡ And (moved_lit place a) (moved_lit place b) = m.row n above k ∙ ap (moved_row place) is in
        let (c, d, same, g) = gate_is_and (place n) (row_at new (place n)) (h.gates (place n) at.1 at.2) in
        let rising : (moved_lit place a).0 < (moved_lit place b).0 = subst₂ (λ (p q : Lit). p.0 < q.0) (first_same c d (moved_lit place a) (moved_lit place b) (sym same ∙ now)) (second_same c d (moved_lit place a) (moved_lit place b) (sym same ∙ now)) g.rising in
        row_there count new (place n) (moved_lit place a) (moved_lit place b) h at.1 at.2 (now ∙ sym (in_order (moved_lit place a) (moved_lit place b) rising))
      where
        first_same : (c d x y : Lit) → And c d ≡ And x y → c ≡ x
        first_same c d x y e = cc

        second_same : (c d x y : Lit) → And c d ≡ And x y → d ≡ y
        second_same c d x y e = cc

    made : (n : ℕ) (l : Lit) → count < n → stands n ≡ Some l → IsHashedRow stands new (row_at rows n) l
    made n l above e =
        let is = is_kept n l e in
        let at = m.there n above is.0 in
        let (a, b, row, g) = gate_is_and n (row_at rows n) (old.gates n above at.0) in
        let refs : (keep (node_of a) ≡ true) × (keep (node_of b) ≡ true) = subst (AllRefs (λ p. keep p ≡ true)) row (m.closed n is.0) in
        subst (λ (r : Row). IsHashedRow stands new r l) (sym row)
        (moved_lit place a, moved_lit place b, stands_for a refs.0, stands_for b refs.1, gate n a b above is.0 row ∙ ap (λ (k : Lit). Some k) (sym is.1))

    all : (ls : List Lit) → All (λ l. keep (node_of l) ≡ true) ls → map (λ l. Some l) (map (moved_lit place) ls) ≡ map (literal_by stands) ls
    all [] h = refl
    all (l ∷ ls) h = ap₂ (λ (o : Option Lit) (os : List (Option Lit)). o ∷ os) (sym (stands_for l (All-head (λ (x : Lit). keep (node_of x) ≡ true) l ls h))) (all ls (All-tail (λ (x : Lit). keep (node_of x) ≡ true) l ls h))

-- rows that stay as they are
pub same_again : (count : ℕ) (rows : List Row) (lits : List Lit) → IsHashed count rows → All (λ l. node_of l < length rows) lits → IsHashedAgain count rows lits rows lits
same_again count rows lits h within =
    subst (IsHashedAgain count rows lits rows) (all_stay lits) (moved_again count rows rows lits (λ n. nat_lt n (length rows)) (λ n. n) h h (record {
      front = λ n low. (lt-ltb n (length rows) (omega (arith, low, h.there)), refl);
      there = λ n above k. (ltb-true n (length rows) k, above, ltb-true n (length rows) k);
      closed = λ n k. AllRefs-weaker (λ j. j < n) (λ j. nat_lt j (length rows) ≡ true) (λ j lt. lt-ltb j (length rows) (omega (arith, lt, ltb-true n (length rows) k))) (row_at rows n) (hashed_in_order count rows h n);
      row = λ n above k. sym (row_stays (row_at rows n));
      observed = λ i d lt. lt-ltb (node_of (get_or lits i d)) (length rows) (within i d lt);
    }))
  where
    lit_stays : (l : Lit) → moved_lit (λ n. n) l ≡ l
    lit_stays l = same_lit (moved_lit (λ n. n) l) l (omega arith)

    row_stays : (row : Row) → moved_row (λ n. n) row ≡ row
    row_stays Free = refl
    row_stays Source = refl
    row_stays (And a b) = ap₂ (λ (x y : Lit). And x y) (lit_stays a) (lit_stays b)
    row_stays (Alias a) = ap (λ (x : Lit). Alias x) (lit_stays a)

    all_stay : (ls : List Lit) → map (moved_lit (λ n. n)) ls ≡ ls
    all_stay [] = refl
    all_stay (l ∷ ls) = ap₂ (λ (x : Lit) (xs : List Lit). x ∷ xs) (lit_stays l) (all_stay ls)

-- rows of which the unreached ones are dropped
pub kept_again : (count : ℕ) (rows : List Row) (lits : List Lit) (set : ℕ → Bool) → IsHashed count rows → All (λ l. node_of l < length rows) lits → IsReachedSet rows lits set
    → IsHashedAgain count rows lits (kept_rows (is_kept count set) rows) (kept_lits (is_kept count set) lits)
kept_again count rows lits set h within reached =
    moved_again count rows (kept_rows keep rows) lits there (kept_below keep) h (kept_hashed count rows keep h keeping) (record {
      front = λ n low. (and_from (nat_lt n (length rows)) (keep n) (lt-ltb n (length rows) (omega (arith, low, h.there))) (keeping.front n low), keeping.stays n (omega (arith, low)));
      there = λ n above k.
          let at = parts n k in
          (at.0, omega (arith, above, keeping.stays (count + 1) (omega arith), below_rises keep (count + 1) n (omega (arith, above))), kept_there keep rows n at.0 at.1);
      closed = λ n k.
          let at = parts n k in
          refs_there (row_at rows n) (AllRefs-weaker (λ j. j < n) (λ j. nat_lt j (length rows) ≡ true) (λ j lt. lt-ltb j (length rows) (omega (arith, lt, at.0))) (row_at rows n) (hashed_in_order count rows h n)) (keeping.closed n at.1);
      row = λ n above k. (let at = parts n k in kept_at keep rows n at.0 at.1);
      observed = λ i d lt.
          and_from (nat_lt (node_of (get_or lits i d)) (length rows)) (keep (node_of (get_or lits i d))) (lt-ltb (node_of (get_or lits i d)) (length rows) (within i d lt))
          (or_right (nat_lt (node_of (get_or lits i d)) (count + 1)) (set (node_of (get_or lits i d))) (reached.observes i d lt));
    })
  where
    keep : ℕ → Bool
    keep = is_kept count set

    there : ℕ → Bool
    there n = nat_lt n (length rows) && keep n

    keeping : IsKeeping count rows keep
    keeping = kept_closed count rows lits set h reached

    parts : (n : ℕ) → there n ≡ true → (n < length rows) × (keep n ≡ true)
    parts n k = let both = and_parts (nat_lt n (length rows)) (keep n) k in (ltb-true n (length rows) both.0, both.1)

    refs_there : (row : Row) → AllRefs (λ j. nat_lt j (length rows) ≡ true) row → AllRefs (λ j. keep j ≡ true) row → AllRefs (λ j. there j ≡ true) row
    refs_there Free p q = tt
    refs_there Source p q = tt
    refs_there (And a b) p q = (and_from (nat_lt (node_of a) (length rows)) (keep (node_of a)) p.0 q.0, and_from (nat_lt (node_of b) (length rows)) (keep (node_of b)) p.1 q.1)
    refs_there (Alias a) p q = and_from (nat_lt (node_of a) (length rows)) (keep (node_of a)) p q
