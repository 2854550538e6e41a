-- Compaction of any rows, of hashed rows, and that rows which can be compacted have valuations.
use Rattle.std.proofs.Common.{◌≡◌, ℕ, zero, suc, ◌+◌, ◌<◌, Bool, false, All, List, length, refl, sym, ap, ◌∙◌, subst, arith, inl, inr}
use Rattle.std.proofs.lemmas.Bool.{cases_lt}
use Rattle.std.proofs.lemmas.List.{get_or_past}
use Rattle.std.proofs.lemmas.List.Elements.{All-weaker}
use Rattle.syn_rows.specs.declared.Lit.{Lit}
use Rattle.syn_rows.specs.declared.Row.{Row}
use Rattle.syn_rows.specs.declared.Row.TheVariants.{Free, Source, And, Alias}
use Rattle.syn_rows.specs.Rows.{node_of, row_at, AllRefs, InOrder, Rises}
use Rattle.syn_rows.specs.Values.{given_by, OneValuation, row_value, RowFits, value_in, values_of}
use Rattle.syn_rows.specs.Levels.{HasLevels, level_in, levels_of, row_level}
use Rattle.syn_rows.proofs.Folds.{AllRefs-weaker, IsLocal, one_levels_is, row_level-local, row_value-local}
use Rattle.syn_hashed.specs.Hashed.{IsHashed}
use Rattle.syn_hashed.specs.Compacting.{CanCompact, HasValuation, IsCompacted, IsCompaction, IsThere}
use Rattle.syn_hashed.specs.Visiting.{IsMadeAgain}
use Rattle.syn_hashed.proofs.Dropped.{gate_is_and}
use Rattle.syn_hashed.proofs.Orders.{hashed_in_order}
use Rattle.syn_hashed.proofs.Rising.{source_value}

-- made again, and then without what isn't reached, rows are compacted
pub made_again_compacted : (count : ℕ) (rows mid new : List Row) (lits mid_lits new_lits : List Lit) → IsMadeAgain count rows lits mid mid_lits → IsCompaction count mid mid_lits new new_lits → IsCompacted count rows lits new new_lits
made_again_compacted count rows mid new lits mid_lits new_lits r c = record {
  hashed = c.hashed;
  same_count = c.same_count ∙ r.same_count;
  within = c.within;
  reached = c.reached;
  fewer = omega (arith, c.fewer, r.fewer);
  ands = λ k counted. omega (arith, c.fewer, r.ands k counted);
  same_values = λ bits v fits has. r.same_values bits v fits has ∙ sym (c.same_function bits);
  levels = λ level h i lt. (let low = r.levels level h i lt in let lower = c.levels i (omega (arith, r.same_count)) in omega (arith, low, lower));
  sources_stay = λ i l lt low at. c.sources_stay i l (omega (arith, r.same_count)) low (r.sources_stay i l lt low at);
}

-- hashed rows, by their computed values and levels
pub compacted_hashed : ((rows : List Row) (given : ℕ → Bool) → InOrder rows → given 0 ≡ false → OneValuation rows given) → (count : ℕ) (rows new : List Row) (lits new_lits : List Lit) → IsHashed count rows → IsCompacted count rows lits new new_lits → IsCompaction count rows lits new new_lits
compacted_hashed one_valuation count rows new lits new_lits hashed c = record {
  hashed = c.hashed;
  same_count = c.same_count;
  within = c.within;
  reached = c.reached;
  fewer = c.fewer;
  same_function = λ bits.
      let was = one_valuation rows (given_by bits) (hashed_in_order count rows hashed) refl in
      sym (c.same_values bits (value_in (values_of (given_by bits) rows)) was.0 (λ n lt. source_value count rows hashed (given_by bits) n lt));
  levels = λ i lt. c.levels (level_in (levels_of rows)) (one_levels_is rows (hashed_in_order count rows hashed)).0 i lt;
  sources_stay = c.sources_stay;
}

source_is_not_free : Source ≡ Free → ⊥
source_is_not_free e = cc

and_is_not_free : (a b : Lit) → And a b ≡ Free → ⊥
and_is_not_free a b e = cc

and_is_not_source : (a b : Lit) → And a b ≡ Source → ⊥
and_is_not_source a b e = cc

hashed_there : (count : ℕ) (rows : List Row) → IsHashed count rows → (n : ℕ) → n < length rows → IsThere rows n
hashed_there count rows hashed n lt e = elim (cases_lt count n) [
  | inl above ↦ (let (a, b, is, gate) = gate_is_and n (row_at rows n) (hashed.gates n above lt) in and_is_not_free a b (sym is ∙ e))
  | inr low ↦ source_is_not_free (sym (hashed.front n (omega arith)) ∙ e)
]

-- hashed rows can be compacted
pub hashed_can_compact : (count : ℕ) (rows : List Row) (lits : List Lit) → IsHashed count rows → All (λ l. node_of l < length rows) lits → CanCompact count rows lits
hashed_can_compact count rows lits hashed within = record {
  front = hashed.front;
  others = λ n above e. elim (cases_lt n (length rows)) [
    | inl lt ↦ (let (a, b, is, gate) = gate_is_and n (row_at rows n) (hashed.gates n above lt) in and_is_not_source a b (sym is ∙ e))
    | inr ge ↦ source_is_not_free (sym e ∙ get_or_past rows n Free ge)
  ];
  refs = λ n. elim (cases_lt n (length rows)) [
    | inl lt ↦ AllRefs-weaker (λ m. m < n) (IsThere rows) (λ m low. hashed_there count rows hashed m (omega arith)) (row_at rows n) (order n)
    | inr ge ↦ subst (AllRefs (IsThere rows)) (sym (get_or_past rows n Free ge)) tt
  ];
  named = All-weaker (λ (l : Lit). node_of l < length rows) (λ (l : Lit). IsThere rows (node_of l)) (λ l lt. hashed_there count rows hashed (node_of l) lt) lits within;
  acyclic = (λ n. n, order);
}
  where
    order : InOrder rows
    order = hashed_in_order count rows hashed

-- What is computed for each node by steps that look at nothing but the nodes that its row refers to, where all that it needs lies at most so many references below.
abbrev step_to : {A : Type 0} → ((ℕ → A) → ℕ → Row → A) → A → List Row → ℕ → ℕ → A
step_to step d rows zero n = d
step_to step d rows (suc k) n = step (step_to step d rows k) n (row_at rows n)

step_stands : {A : Type 0} (step : (ℕ → A) → ℕ → Row → A) (d : A) → IsLocal step → (rows : List Row) (rank : ℕ → ℕ) → Rises rows rank → (j k n : ℕ) → rank n < j → rank n < k → step_to step d rows j n ≡ step_to step d rows k n
step_stands step d local rows rank rises zero k n low high = absurd (omega arith)
step_stands step d local rows rank rises (suc j) zero n low high = absurd (omega arith)
step_stands step d local rows rank rises (suc j) (suc k) n low high =
    local (step_to step d rows j) (step_to step d rows k) n (row_at rows n)
    (AllRefs-weaker (λ m. rank m < rank n) (λ m. step_to step d rows j m ≡ step_to step d rows k m) (λ m under. step_stands step d local rows rank rises j k m (omega arith) (omega arith)) (row_at rows n) (rises n))

-- where some rank rises, the steps have a solution
solution : {A : Type 0} (step : (ℕ → A) → ℕ → Row → A) (d : A) → IsLocal step → (rows : List Row) (rank : ℕ → ℕ) → Rises rows rank → (f : ℕ → A) × ((n : ℕ) → f n ≡ step f n (row_at rows n))
solution step d local rows rank rises = (
  λ n. step_to step d rows (suc (rank n)) n,
  λ n.
      local (step_to step d rows (rank n)) (λ m. step_to step d rows (suc (rank m)) m) n (row_at rows n)
      (AllRefs-weaker (λ m. rank m < rank n) (λ m. step_to step d rows (rank n) m ≡ step_to step d rows (suc (rank m)) m)
      (λ m under. step_stands step d local rows rank rises (rank n) (suc (rank m)) m under (omega arith)) (row_at rows n) (rises n)),
)

fits_row : (given v : ℕ → Bool) (n : ℕ) (row : Row) → v n ≡ row_value given v n row → RowFits v n row
fits_row given v n Free e = tt
fits_row given v n Source e = tt
fits_row given v n (And a b) e = e
fits_row given v n (Alias a) e = e

pub has_valuation_is : (count : ℕ) (rows : List Row) (lits : List Lit) → CanCompact count rows lits → HasValuation count rows
has_valuation_is count rows lits can given at_0 = (v, record { constant = sources 0 (omega arith) ∙ at_0; each = λ n. fits_row given v n (row_at rows n) (found.1 n) }, sources)
  where
    found : (f : ℕ → Bool) × ((n : ℕ) → f n ≡ row_value given f n (row_at rows n))
    found = solution (row_value given) false (row_value-local given) rows can.acyclic.0 can.acyclic.1

    v : ℕ → Bool
    v = found.0

    sources : (n : ℕ) → n < count + 1 → v n ≡ given n
    sources n lt = found.1 n ∙ ap (row_value given v n) (can.front n lt)

pub has_level_is : (count : ℕ) (rows : List Row) (lits : List Lit) → CanCompact count rows lits → (level : ℕ → ℕ) × HasLevels rows level
has_level_is count rows lits can = solution row_level 0 row_level-local rows can.acyclic.0 can.acyclic.1
