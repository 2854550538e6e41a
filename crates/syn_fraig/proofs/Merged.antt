-- Merged rows: another row for a node, what compaction wants of them, the values that they give, how many ANDs they have.
use Rattle.std.proofs.Common.{◌≡◌, ◌≢◌, ℕ, zero, suc, ◌+◌, ◌<◌, ◌≤◌, ◌&&◌, if◌then◌else◌, Bool, true, false, All, List, [], ◌∷◌, length, set, get_or, refl, sym, ap, ◌∙◌, subst, arith, inl, inr}
use Rattle.std.proofs.lemmas.Bool.{cases_lt, cases_eq}
use Rattle.std.proofs.lemmas.List.{get_or_past, get_or-set_same, get_or-set_other, length-set}
use Rattle.syn_rows.specs.declared.Lit.{Lit}
use Rattle.syn_rows.specs.declared.Row.{Row}
use Rattle.syn_rows.specs.declared.Row.TheVariants.{Free, Source, And, Alias}
use Rattle.syn_rows.specs.Rows.{node_of, row_at, AllRefs, is_derived, refs_below}
use Rattle.syn_rows.specs.Reach.{Ands, HasAnds, ands_from, is_and}
use Rattle.syn_rows.specs.Values.{Fits, OneValuation, RowFits, given_by, is_open, rows_function, value_in, values_of}
use Rattle.syn_rows.proofs.Folds.{AllRefs-weaker, one_valuation_is, refs_below_is}
use Rattle.syn_hashed.specs.Hashed.{IsHashed, is_gate}
use Rattle.syn_hashed.specs.Compacting.{CanCompact, HasSources, IsCompacted, IsThere, SameValues}
use Rattle.syn_hashed.proofs.Orders.{hashed_in_order}
use Rattle.syn_graph.specs.declared.Graph.{Graph}
use Rattle.syn_graph.specs.Relations.{Follows}
use Rattle.syn_fraig.specs.Merging.{FitsAlso, IsMerged}

at_node : (rows : List Row) (n : ℕ) (row : Row) → n < length rows → row_at (set rows n row) n ≡ row
at_node rows n row lt = get_or-set_same rows n row Free lt

at_other : (rows : List Row) (n m : ℕ) (row : Row) → m ≢ n → row_at (set rows n row) m ≡ row_at rows m
at_other rows n m row ne = get_or-set_other rows n m row Free ne

-- what holds of each row, and of one node's new row, holds of each afterwards
each_after : (P : ℕ → Row → Type 0) (rows : List Row) (n : ℕ) (row : Row) → n < length rows → ((m : ℕ) → P m (row_at rows m)) → P n row → (m : ℕ) → P m (row_at (set rows n row) m)
each_after P rows n row lt old new m = elim (cases_eq m n) [
  | inl e ↦ subst (λ (k : ℕ). P k (row_at (set rows n row) k)) (sym e) (subst (P n) (sym (at_node rows n row lt)) new)
  | inr ne ↦ subst (P m) (sym (at_other rows n m row ne)) (old m)
]

pub merged_after : (count : ℕ) (rows now : List Row) (n : ℕ) (row : Row) → count < n → n < length now → is_derived row ≡ true → refs_below n row ≡ true
    → ((v : ℕ → Bool) → Fits rows v → RowFits v n row) → IsMerged count rows now → IsMerged count rows (set now n row)
merged_after count rows now n row above there derived below fits is = record {
  long = length-set now n row ∙ is.long;
  front = λ m lt. at_other now n m row (λ e. omega arith) ∙ is.front m lt;
  derived = λ m gt lt. elim (cases_eq m n) [
    | inl e ↦ ap (λ (k : ℕ). is_derived (row_at (set now n row) k)) e ∙ ap is_derived (at_node now n row there) ∙ derived
    | inr ne ↦ ap is_derived (at_other now n m row ne) ∙ is.derived m gt (omega (arith, lt, length-set now n row))
  ];
  order = each_after (λ (m : ℕ) (r : Row). AllRefs (λ k. k < m) r) now n row there is.order (refs_below_is n row below);
  fits = λ v f.
      let old : Fits now v = is.fits v f in
      record { constant = old.constant; each = each_after (λ (m : ℕ) (r : Row). RowFits v m r) now n row there old.each (fits v f) };
}

no_free : (row : Row) → is_derived row ≡ true → row ≡ Free → ⊥
no_free Free h e = absurd (cc)
no_free Source h e = absurd (cc)
no_free (And a b) h e = absurd (cc)
no_free (Alias a) h e = absurd (cc)

no_source : (row : Row) → is_derived row ≡ true → row ≡ Source → ⊥
no_source Free h e = absurd (cc)
no_source Source h e = absurd (cc)
no_source (And a b) h e = absurd (cc)
no_source (Alias a) h e = absurd (cc)

pub can_compact : (count : ℕ) (rows now : List Row) (lits : List Lit) → IsMerged count rows now → All (λ l. node_of l < length rows) lits → CanCompact count now lits
can_compact count rows now lits is within = record {
  front = is.front;
  others = λ n gt e. elim (cases_lt n (length now)) [
    | inl lt ↦ no_source (row_at now n) (is.derived n gt lt) e
    | inr ge ↦ absurd (cc (e, get_or_past now n Free ge))
  ];
  refs = λ n. elim (cases_lt n (length now)) [
    | inl lt ↦ AllRefs-weaker (λ m. m < n) (IsThere now) (λ m low. there m (omega arith)) (row_at now n) (is.order n)
    | inr ge ↦ subst (AllRefs (IsThere now)) (sym (get_or_past now n Free ge)) tt
  ];
  named = λ i d lt. there (node_of (get_or lits i d)) (omega (arith, within i d lt, is.long));
  acyclic = (λ n. n, is.order);
}
  where
    there : (m : ℕ) → m < length now → IsThere now m
    there m lt e = elim (cases_lt m (count + 1)) [
      | inl low ↦ absurd (cc (e, is.front m low))
      | inr ge ↦ no_free (row_at now m) (is.derived m (omega arith) lt) e
    ]

-- the old rows' valuation fits the new ones, and compaction keeps its values
same_values : (count : ℕ) (rows now : List Row) (lits : List Lit) (new : List Row) (new_lits : List Lit) → IsHashed count rows → IsMerged count rows now
    → SameValues count now lits new new_lits → (bits : List Bool) → rows_function new new_lits bits ≡ rows_function rows lits bits
same_values count rows now lits new new_lits h is same bits = sym (same bits u (is.fits u one.0) has)
  where
    one : OneValuation rows (given_by bits)
    one = one_valuation_is rows (given_by bits) (hashed_in_order count rows h) refl

    u : ℕ → Bool
    u = value_in (values_of (given_by bits) rows)

    has : HasSources count (given_by bits) u
    has n lt = one.1 n (omega (arith, lt, h.there)) (ap is_open (h.front n lt))

one_more : (row : Row) (b : Bool) → (if is_and row && b then 1 else 0) ≤ 1
one_more Free b = omega arith
one_more Source b = omega arith
one_more (And x y) true = omega arith
one_more (And x y) false = omega arith
one_more (Alias x) b = omega arith

none_more : (row : Row) (b : Bool) → is_and row ≡ false → (if is_and row && b then 1 else 0) ≤ 0
none_more Free b h = omega arith
none_more Source b h = omega arith
none_more (And x y) b h = absurd (cc)
none_more (Alias x) b h = omega arith

-- where the first rows are no ANDs, there are no more of them than other rows
ands_front : (c n : ℕ) (s : ℕ → Bool) (rows : List Row) → ((i : ℕ) → i < c → is_and (row_at rows i) ≡ false) → c ≤ length rows → ands_from n s rows + c ≤ length rows
ands_front c n s [] none le = omega arith
ands_front zero n s (row ∷ rows) none le = omega (arith, one_more row (s n), ands_front 0 (n + 1) s rows (λ i lt. absurd (omega arith)) (omega arith))
ands_front (suc c) n s (row ∷ rows) none le =
    omega (arith, none_more row (s n) (none 0 (omega arith)), ands_front c (n + 1) s rows (λ i lt. none (suc i) (omega arith)) (omega arith))

no_more : (count : ℕ) (rows now : List Row) (lits : List Lit) → IsMerged count rows now → count < length rows → HasAnds now lits → (new : List Row)
    → ((k : ℕ) → Ands now lits k → length new ≤ count + 1 + k) → length new ≤ length rows
no_more count rows now lits is some (k, (s, reached, e)) new fewer =
    omega (arith, fewer k (s, reached, e), e, is.long, ands_front (count + 1) 0 s now (λ i lt. ap is_and (is.front i lt)) (omega (arith, is.long)))

-- merged rows, compacted, have the graph's function and no more ANDs
pub follows : (was new : Graph) (now : List Row) → IsMerged was.source_count was.rows now → HasAnds now was.observed → new.source_count ≡ was.source_count
    → IsCompacted was.source_count now was.observed new.rows new.observed → Follows was 0 new
follows was new now is some sources c = record {
  same = record {
    sources = sources;
    count = c.same_count;
    stay = c.sources_stay;
    values = same_values was.source_count was.rows now was.observed new.rows new.observed was.graph.hashed is c.same_values;
  };
  count = (let le = no_more was.source_count was.rows now was.observed is was.graph.hashed.there some new.rows c.ands in omega (arith, le));
}

-- a row of the merged rows is one of the gates
pub gate_after : (rows now gates : List Row) (n : ℕ) → n < length gates → FitsAlso rows now → FitsAlso rows gates → FitsAlso rows (set gates n (row_at now n))
gate_after rows now gates n lt fits_now fits_gates v f =
    let old : Fits gates v = fits_gates v f in
    let merged : Fits now v = fits_now v f in
    record { constant = old.constant; each = each_after (λ (m : ℕ) (r : Row). RowFits v m r) gates n (row_at now n) lt old.each (merged.each n) }

gate_is_derived : (n : ℕ) (row : Row) → is_gate n row ≡ true → is_derived row ≡ true
gate_is_derived n Free h = absurd (cc)
gate_is_derived n Source h = absurd (cc)
gate_is_derived n (And a b) h = refl
gate_is_derived n (Alias a) h = absurd (cc)

-- before the sweep
pub merged_first : (count : ℕ) (rows : List Row) → IsHashed count rows → IsMerged count rows rows
merged_first count rows h = record {
  long = refl;
  front = h.front;
  derived = λ n gt lt. gate_is_derived n (row_at rows n) (h.gates n gt lt);
  order = hashed_in_order count rows h;
  fits = λ v f. f;
}
