-- The count of ANDs before and after, and freeing by counts.
use Rattle.std.proofs.Common.{◌≡◌, ◌≢◌, ℕ, ◌+◌, ◌≤◌, ◌||◌, ◌&&◌, ◌==◌, Bool, true, false, not, List, length, if◌then◌else◌, refl, sym, ap, ap₂, ◌∙◌, arith, inl, inr}
use Rattle.std.proofs.lemmas.Bool.{cases_Bool, cases_eq, cases_lt, eq-eqb, eqb-false, ne_eqb, and_from, not_from_false}
use Rattle.std.proofs.lemmas.List.{get_or_past}
use Rattle.syn_rows.specs.declared.Lit.{Lit}
use Rattle.syn_rows.specs.declared.Row.{Row}
use Rattle.syn_rows.specs.declared.Row.TheVariants.{Free, Source, And, Alias}
use Rattle.syn_rows.specs.Rows.{row_at, Rises, is_derived}
use Rattle.syn_rows.specs.Reach.{is_and, ands_in, Reached, IsReachedSet}
use Rattle.syn_rows.specs.References.{refs, refs_by_rows, refs_by_literals, sum_below, all_ands}
use Rattle.syn_fanout_free.specs.Freed.{is_free, refers, Keeps, Frees, FreesByCount, IsFreed, IsFreedByCount, SparesUsed, refs_from, count_below, added, lost}
use Rattle.syn_fanout_free.proofs.Pointwise.{refers_none, refers_some, refers_not_free, inside}
use Rattle.syn_fanout_free.proofs.Sets.{SparesOnlyUsed, unreached_is_freed}
use Rattle.syn_fanout_free.proofs.Numbers.{one_if, count_balance, count_beyond, sum_none, sum_both, term_le_sum, sum_one, ands_count}

pub is_and_not_free : (r : Row) → is_free r ≡ true → is_and r ≡ false
is_and_not_free Free h = refl
is_and_not_free Source h = absurd (cc)
is_and_not_free (And a b) h = absurd (cc)
is_and_not_free (Alias a) h = absurd (cc)

pub is_and_gate : (r : Row) → is_and r ≡ true → is_derived r ≡ true
is_and_gate Free h = absurd (cc)
is_and_gate Source h = absurd (cc)
is_and_gate (And a b) h = refl
is_and_gate (Alias a) h = absurd (cc)

-- The balance at one node: was (a) and is (b) an AND, is n, was free, is reached, is freed.
balance_at_root : (a b root free reached freed : Bool) → root ≡ true
    → one_if a + one_if (b && ((root || free) && reached)) ≡ one_if (b && reached) + one_if (a && (root || freed))
balance_at_root a b false free reached freed h = absurd (cc)
balance_at_root true true true free true freed h = refl
balance_at_root true true true free false freed h = refl
balance_at_root true false true free reached freed h = refl
balance_at_root false true true free true freed h = refl
balance_at_root false true true free false freed h = refl
balance_at_root false false true free reached freed h = refl

balance_at_free : (a b root free reached freed : Bool) → a ≡ false → free ≡ true
    → one_if a + one_if (b && ((root || free) && reached)) ≡ one_if (b && reached) + one_if (a && (root || freed))
balance_at_free true b root free reached freed h g = absurd (cc)
balance_at_free a b root false reached freed h g = absurd (cc)
balance_at_free false true true true true freed h g = refl
balance_at_free false true false true true freed h g = refl
balance_at_free false true true true false freed h g = refl
balance_at_free false true false true false freed h g = refl
balance_at_free false false root true reached freed h g = refl

balance_at_none : (a b root free reached freed : Bool) → root ≡ false → free ≡ false → b ≡ a → a ≡ false
    → one_if a + one_if (b && ((root || free) && reached)) ≡ one_if (b && reached) + one_if (a && (root || freed))
balance_at_none true b root free reached freed h g same none = absurd (cc)
balance_at_none false true root free reached freed h g same none = absurd (cc)
balance_at_none false false root free reached freed h g same none = refl

balance_at_old : (a b root free reached freed : Bool) → root ≡ false → free ≡ false → b ≡ a → reached ≡ not freed
    → one_if a + one_if (b && ((root || free) && reached)) ≡ one_if (b && reached) + one_if (a && (root || freed))
balance_at_old a b true free reached freed h g same kept = absurd (cc)
balance_at_old a b root true reached freed h g same kept = absurd (cc)
balance_at_old true true false false true true h g same kept = absurd (cc)
balance_at_old true true false false true false h g same kept = refl
balance_at_old true true false false false true h g same kept = refl
balance_at_old true true false false false false h g same kept = absurd (cc)
balance_at_old true false false false reached freed h g same kept = absurd (cc)
balance_at_old false true false false reached freed h g same kept = absurd (cc)
balance_at_old false false false false reached freed h g same kept = refl

-- THE LAW ON NUMBERS: ANDs before and those added are ANDs reached afterwards and those lost.
pub saved_balance : (was now : List Row) (observed : List Lit) (n : ℕ) (may after freed : ℕ → Bool) (rank : ℕ → ℕ)
    → Keeps was now n → IsReachedSet now observed after → Reached was observed n
    → SparesUsed was now n after may → SparesOnlyUsed was n after may → IsFreed was observed n may freed → Rises was rank
    → length was ≤ length now
    → all_ands was + added was now n after ≡ ands_in after now + lost was n freed
saved_balance was now observed n may after freed rank keeps reach before spares only least rises longer =
    let far : (p : ℕ) → length was ≤ p → is_and (row_at was p) ≡ false = λ p ge. ap is_and (get_or_past was p Free ge) in
    let first : count_below (length now) (λ p. is_and (row_at was p)) ≡ count_below (length was) (λ p. is_and (row_at was p)) =
    count_beyond (length was) (length now) (λ p. is_and (row_at was p)) longer far in
    let last : count_below (length now) (λ p. is_and (row_at was p) && ((p == n) || freed p)) ≡ count_below (length was) (λ p. is_and (row_at was p) && ((p == n) || freed p)) =
    count_beyond (length was) (length now) (λ p. is_and (row_at was p) && ((p == n) || freed p)) longer (λ p ge. ap (λ t. t && ((p == n) || freed p)) (far p ge)) in
    let all = count_balance (length now) (λ p. is_and (row_at was p)) (λ p. is_and (row_at now p) && (((p == n) || is_free (row_at was p)) && after p))
    (λ p. is_and (row_at now p) && after p) (λ p. is_and (row_at was p) && ((p == n) || freed p)) at in
    omega (arith, first, last, all, ands_count now after)
  where
    at : (p : ℕ) → one_if (is_and (row_at was p)) + one_if (is_and (row_at now p) && (((p == n) || is_free (row_at was p)) && after p))
        ≡ one_if (is_and (row_at now p) && after p) + one_if (is_and (row_at was p) && ((p == n) || freed p))
    at p = elim (cases_Bool (p == n)) [
      | inl root ↦ balance_at_root (is_and (row_at was p)) (is_and (row_at now p)) (p == n) (is_free (row_at was p)) (after p) (freed p) root
      | inr other ↦ elim (cases_Bool (is_free (row_at was p))) [
        | inl free ↦ balance_at_free (is_and (row_at was p)) (is_and (row_at now p)) (p == n) (is_free (row_at was p)) (after p) (freed p) (is_and_not_free (row_at was p) free) free
        | inr there ↦ elim (cases_Bool (is_and (row_at was p))) [
          | inr none ↦ balance_at_none (is_and (row_at was p)) (is_and (row_at now p)) (p == n) (is_free (row_at was p)) (after p) (freed p) other there
              (ap is_and (keeps p (eqb-false p n other) there)) none
          | inl and_row ↦ balance_at_old (is_and (row_at was p)) (is_and (row_at now p)) (p == n) (is_free (row_at was p)) (after p) (freed p) other there
              (ap is_and (keeps p (eqb-false p n other) there))
              (unreached_is_freed was now observed n may after freed rank keeps reach before spares only least rises p (is_and_gate (row_at was p) and_row))
        ]
      ]
    ]

-- FREEING BY COUNTS: where the counts are all references, both ways to say what is freed are one.

-- what refers to m beside n and a set
others : List Row → ℕ → (ℕ → Bool) → ℕ → ℕ
others was n set m = sum_below (length was) (λ p. if not (set p) && not (p == n) then refs m (row_at was p) else 0)

one_of_three : (root inner : Bool) (c : ℕ)
    → c ≡ (if root then c else 0) + ((if inner && not root then c else 0) + (if not inner && not root then c else 0))
one_of_three true true c = omega arith
one_of_three true false c = omega arith
one_of_three false true c = omega arith
one_of_three false false c = omega arith

root_alone : (was : List Row) (n m : ℕ) → sum_below (length was) (λ p. if p == n then refs m (row_at was p) else 0) ≡ refs m (row_at was n)
root_alone was n m = elim (cases_lt n (length was)) [
  | inl lt ↦ sum_one (length was) (λ p. refs m (row_at was p)) n lt
  | inr ge ↦
      sum_none (length was) (λ p. if p == n then refs m (row_at was p) else 0) (λ p lt. ap (λ t. if t then refs m (row_at was p) else 0) (ne_eqb p n (λ e. omega arith)))
      ∙ sym (ap (λ (r : Row). refs m r) (get_or_past was n Free ge))
]

references_split : (was : List Row) (n : ℕ) (set : ℕ → Bool) (m : ℕ)
    → refs_by_rows m was ≡ refs m (row_at was n) + (refs_from was (λ p. set p && not (p == n)) m + others was n set m)
unfolding others
references_split was n set m =
    let f : ℕ → ℕ = λ p. refs m (row_at was p) in
    let g : ℕ → ℕ = λ p. if p == n then refs m (row_at was p) else 0 in
    let h : ℕ → ℕ = λ p. if set p && not (p == n) then refs m (row_at was p) else 0 in
    let j : ℕ → ℕ = λ p. if not (set p) && not (p == n) then refs m (row_at was p) else 0 in
    let one : sum_below (length was) f ≡ sum_below (length was) g + sum_below (length was) (λ p. h p + j p) =
    sum_both (length was) f g (λ p. h p + j p) (λ p. one_of_three (p == n) (set p) (refs m (row_at was p))) in
    let two : sum_below (length was) (λ p. h p + j p) ≡ sum_below (length was) h + sum_below (length was) j = sum_both (length was) (λ p. h p + j p) h j (λ p. refl) in
    one ∙ ap₂ (λ a b. a + b) (root_alone was n m) two

-- nothing else refers to m: by counts, and one by one
others_none : (was : List Row) (n : ℕ) (set : ℕ → Bool) (m : ℕ) → others was n set m ≡ 0 → (p : ℕ) → p ≢ n → refers (row_at was p) m ≡ true → set p ≡ true
unfolding others
others_none was n set m none p ne r = elim (cases_Bool (set p)) [
  | inl ya ↦ ya
  | inr na ↦
      let term : (if not (set p) && not (p == n) then refs m (row_at was p) else 0) ≡ refs m (row_at was p) =
      ap (λ t. if t then refs m (row_at was p) else 0) (and_from (not (set p)) (not (p == n)) (not_from_false (set p) na) (not_from_false (p == n) (ne_eqb p n ne))) in
      let bound = term_le_sum (length was) (λ q. if not (set q) && not (q == n) then refs m (row_at was q) else 0) p (inside was p (refers_not_free (row_at was p) m r)) in
      absurd (omega (arith, none, term, bound, refers_some (row_at was p) m r))
]

none_others : (was : List Row) (n : ℕ) (set : ℕ → Bool) (m : ℕ) → ((p : ℕ) → p ≢ n → refers (row_at was p) m ≡ true → set p ≡ true) → others was n set m ≡ 0
unfolding others
none_others was n set m refs_in = sum_none (length was) (λ p. if not (set p) && not (p == n) then refs m (row_at was p) else 0) (λ p lt. at p)
  where
    at : (p : ℕ) → (if not (set p) && not (p == n) then refs m (row_at was p) else 0) ≡ 0
    at p = elim (cases_Bool (refers (row_at was p) m)) [
      | inr f ↦ zero_both (not (set p) && not (p == n)) (refs m (row_at was p)) (refers_none (row_at was p) m f)
      | inl t ↦ elim (cases_eq p n) [
        | inl e ↦ ap (λ b. if not (set p) && not b then refs m (row_at was p) else 0) (eq-eqb p n e) ∙ dropped (not (set p)) (refs m (row_at was p))
        | inr ne ↦ ap (λ b. if not b && not (p == n) then refs m (row_at was p) else 0) (refs_in p ne t)
      ]
    ]
      where
        zero_both : (b : Bool) (c : ℕ) → c ≡ 0 → (if b then c else 0) ≡ 0
        zero_both true c e = e
        zero_both false c e = refl

        dropped : (b : Bool) (c : ℕ) → (if b && false then c else 0) ≡ 0
        dropped true c = refl
        dropped false c = refl

-- the counts of the nodes that may be freed are all references
abbrev pub CountsAll : List Row → List Lit → (ℕ → ℕ) → (ℕ → Bool) → Type 0
CountsAll was observed counts may = (m : ℕ) → may m ≡ true → counts m ≡ refs_by_rows m was + refs_by_literals m observed

pub frees_by_count : (was : List Row) (observed : List Lit) (counts : ℕ → ℕ) (n : ℕ) (may set : ℕ → Bool)
    → CountsAll was observed counts may → Frees was observed n may set → FreesByCount was counts n may set
frees_by_count was observed counts n may set exact frees m ok few =
    let all = references_split was n set m in
    let unseen : refs_by_literals m observed ≡ 0 = omega (arith, all, exact m ok, few) in
    let rest : others was n set m ≡ 0 = omega (arith, all, exact m ok, few) in
    frees m ok unseen (others_none was n set m rest)

pub frees_one_by_one : (was : List Row) (observed : List Lit) (counts : ℕ → ℕ) (n : ℕ) (may set : ℕ → Bool)
    → CountsAll was observed counts may → FreesByCount was counts n may set → Frees was observed n may set
frees_one_by_one was observed counts n may set exact frees m ok unseen refs_in =
    frees m ok (omega (arith, references_split was n set m, exact m ok, unseen, none_others was n set m refs_in))

-- THE LAW ON COUNTS: the least set that obeys the rule of freeing by counts is the least one that obeys the rule of freeing.
pub freed_from_counts : (was : List Row) (observed : List Lit) (counts : ℕ → ℕ) (n : ℕ) (may freed : ℕ → Bool)
    → CountsAll was observed counts may → IsFreedByCount was counts n may freed → IsFreed was observed n may freed
freed_from_counts was observed counts n may freed exact by = record {
  frees = frees_one_by_one was observed counts n may freed exact by.frees;
  least = λ set frees m h. by.least set (frees_by_count was observed counts n may set exact frees) m h;
}

pub counts_from_freed : (was : List Row) (observed : List Lit) (counts : ℕ → ℕ) (n : ℕ) (may freed : ℕ → Bool)
    → CountsAll was observed counts may → IsFreed was observed n may freed → IsFreedByCount was counts n may freed
counts_from_freed was observed counts n may freed exact one = record {
  frees = frees_by_count was observed counts n may freed exact one.frees;
  least = λ set frees m h. one.least set (frees_one_by_one was observed counts n may set exact frees) m h;
}
