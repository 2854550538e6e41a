-- The marked nodes in order, and the numbers of their signals.
use Rattle.std.proofs.Common.{◌≡◌, ℕ, zero, suc, ◌+◌, ◌<◌, ◌≤◌, ◌||◌, nat_lt, nat_eq, eq-eqb, if◌then◌else◌, Bool, true, false, List, [], ◌∷◌, ◌++◌, length, get_or, drop, refl, sym, ap, ap₂, ◌∙◌, subst, append_assoc, add-one, inl, inr, arith}
use Rattle.std.specs.List.{list_all}
use Rattle.std.proofs.lemmas.Bool.{cases_Bool, cases_lt, and_parts, and_from, or_from, or_left, both_ways, cond-true, cond-false, ltb-true, lt-ltb, eqb-true, false_from_ne_true}
use Rattle.std.proofs.lemmas.List.{drop_more, length_push, get_or_append_left, get_or_push}
use Rattle.syn_rows.specs.Values.{value_in}
use Rattle.syn_rows.specs.Nodes.{has_node}
use Rattle.syn_lutnet.specs.LutData.{rising}
use Rattle.syn_covering.specs.Making.{number_at}
use Rattle.syn_covering.specs.Mappings.{place_of, signal_of, HasSignal}
use Rattle.syn_covering.specs.Needs.{marked_from}

apart : (m n : ℕ) → (m ≡ n → ⊥) → nat_eq m n ≡ false
apart m n h = false_from_ne_true (nat_eq m n) (λ e. h (eqb-true m n e))

pub none_below : (n : ℕ) (marks : List Bool) (m : ℕ) → m < n → has_node (marked_from n marks) m ≡ false
none_below n [] m lt = refl
none_below n (true ∷ marks) m lt = or_from (nat_eq n m) (has_node (marked_from (suc n) marks) m) (apart n m (λ e. omega (arith, e, lt))) (none_below (suc n) marks m (omega (arith, lt)))
none_below n (false ∷ marks) m lt = none_below (suc n) marks m (omega (arith, lt))

-- a node is among the marked where it is marked
marked_at : (n : ℕ) (marks : List Bool) (j : ℕ) → has_node (marked_from n marks) (n + j) ≡ value_in marks j
marked_at n [] j = refl
marked_at n (true ∷ marks) zero = or_left (nat_eq n (n + 0)) (has_node (marked_from (suc n) marks) (n + 0)) (eq-eqb n (n + 0) (let s : n ≡ n + 0 = omega arith in s))
marked_at n (false ∷ marks) zero = ap (has_node (marked_from (suc n) marks)) (let s : n + 0 ≡ n = omega arith in s) ∙ none_below (suc n) marks n (omega arith)
marked_at n (true ∷ marks) (suc j) =
    ap (λ b. b || has_node (marked_from (suc n) marks) (n + suc j)) (apart n (n + suc j) (λ e. omega (arith, e)))
    ∙ ap (has_node (marked_from (suc n) marks)) (let s : n + suc j ≡ suc n + j = omega arith in s) ∙ marked_at (suc n) marks j
marked_at n (false ∷ marks) (suc j) = ap (has_node (marked_from (suc n) marks)) (let s : n + suc j ≡ suc n + j = omega arith in s) ∙ marked_at (suc n) marks j

pub marked_has : (marks : List Bool) (m : ℕ) → has_node (marked_from 0 marks) m ≡ value_in marks m
marked_has marks m = ap (has_node (marked_from 0 marks)) (let s : m ≡ 0 + m = omega arith in s) ∙ marked_at 0 marks m

marked_above : (low n : ℕ) (marks : List Bool) → low < n → list_all (nat_lt low) (marked_from n marks) ≡ true
marked_above low n [] lt = refl
marked_above low n (true ∷ marks) lt = and_from (nat_lt low n) (list_all (nat_lt low) (marked_from (suc n) marks)) (lt-ltb low n lt) (marked_above low (suc n) marks (omega (arith, lt)))
marked_above low n (false ∷ marks) lt = marked_above low (suc n) marks (omega (arith, lt))

pub marked_rise : (n : ℕ) (marks : List Bool) → rising (marked_from n marks) ≡ true
marked_rise n [] = refl
marked_rise n (true ∷ marks) = and_from (list_all (nat_lt n) (marked_from (suc n) marks)) (rising (marked_from (suc n) marks)) (marked_above n (suc n) marks (omega arith)) (marked_rise (suc n) marks)
marked_rise n (false ∷ marks) = marked_rise (suc n) marks

-- the node behind others that are smaller

place_behind : (n : ℕ) (before rest : List ℕ) → list_all (λ m. nat_lt m n) before ≡ true → place_of n (before ++ n ∷ rest) ≡ length before
place_behind n [] rest h = cond-true (nat_eq n n) 0 (suc (place_of n rest)) (eq-eqb n n refl)
place_behind n (m ∷ ms) rest h =
    let parts = and_parts (nat_lt m n) (list_all (λ k. nat_lt k n) ms) h in
    let less = ltb-true m n parts.0 in
    cond-false (nat_eq m n) 0 (suc (place_of n (ms ++ n ∷ rest))) (apart m n (λ e. omega (arith, e, less))) ∙ ap suc (place_behind n ms rest parts.1)

not_behind : (n : ℕ) (before rest : List ℕ) → list_all (λ m. nat_lt m n) before ≡ true → has_node rest n ≡ false → has_node (before ++ rest) n ≡ false
not_behind n [] rest h away = away
not_behind n (m ∷ ms) rest h away =
    let parts = and_parts (nat_lt m n) (list_all (λ k. nat_lt k n) ms) h in
    let less = ltb-true m n parts.0 in
    or_from (nat_eq m n) (has_node (ms ++ rest) n) (apart m n (λ e. omega (arith, e, less))) (not_behind n ms rest parts.1 away)

pub smaller_more : (n next : ℕ) (before : List ℕ) → n ≤ next → list_all (λ m. nat_lt m n) before ≡ true → list_all (λ m. nat_lt m next) before ≡ true
smaller_more n next [] le h = refl
smaller_more n next (m ∷ ms) le h =
    let parts = and_parts (nat_lt m n) (list_all (λ k. nat_lt k n) ms) h in
    let less = ltb-true m n parts.0 in
    and_from (nat_lt m next) (list_all (λ k. nat_lt k next) ms) (lt-ltb m next (omega (arith, less, le))) (smaller_more n next ms le parts.1)

pub smaller_push : (n next : ℕ) (before : List ℕ) → n < next → list_all (λ m. nat_lt m n) before ≡ true → list_all (λ m. nat_lt m next) (before ++ n ∷ []) ≡ true
smaller_push n next [] lt h = and_from (nat_lt n next) true (lt-ltb n next lt) refl
smaller_push n next (m ∷ ms) lt h =
    let parts = and_parts (nat_lt m n) (list_all (λ k. nat_lt k n) ms) h in
    let less = ltb-true m n parts.0 in
    and_from (nat_lt m next) (list_all (λ k. nat_lt k next) (ms ++ n ∷ [])) (lt-ltb m next (omega (arith, less, lt))) (smaller_push n next ms lt parts.1)

-- the signal that the next node is given, with the nodes before it
pub signal_given : (count n : ℕ) (before all : List ℕ) (mark : Bool) (marks : List Bool) → before ++ marked_from n (mark ∷ marks) ≡ all → list_all (λ m. nat_lt m n) before ≡ true → HasSignal count all n
    → (if nat_lt n (count + 1) then n else count + 1 + length before) ≡ signal_of count all n
signal_given count n before all mark marks split low has = elim (cases_Bool (nat_lt n (count + 1))) [
  | inl t ↦ cond-true (nat_lt n (count + 1)) n (count + 1 + length before) t ∙ sym (cond-true (nat_lt n (count + 1)) n (count + 1 + place_of n all) t)
  | inr f ↦
      let there : has_node all n ≡ true = elim has [ inl lt ↦ absurd (both_ways (nat_lt n (count + 1)) f (lt-ltb n (count + 1) lt)) | inr h ↦ h ] in
      cond-false (nat_lt n (count + 1)) n (count + 1 + length before) f ∙ ap (λ p. count + 1 + p) (sym (at mark split there)) ∙ sym (cond-false (nat_lt n (count + 1)) n (count + 1 + place_of n all) f)
]
  where
    at : (b : Bool) → before ++ marked_from n (b ∷ marks) ≡ all → has_node all n ≡ true → place_of n all ≡ length before
    at true split there = ap (place_of n) (sym split) ∙ place_behind n before (marked_from (suc n) marks) low
    at false split there = absurd (both_ways (has_node all n) (ap (λ (ns : List ℕ). has_node ns n) (sym split) ∙ not_behind n before (marked_from (suc n) marks) low (none_below (suc n) marks n (omega arith))) there)

-- the nodes and the signals with one node more

pub nodes_next : (n next : ℕ) (before after all : List ℕ) (marks : List Bool) → next ≡ n + 1 → n < length marks → after ≡ (if get_or marks n false then before ++ n ∷ [] else before) → before ++ marked_from n (drop n marks) ≡ all
    → after ++ marked_from next (drop next marks) ≡ all
nodes_next n next before after all marks at lt e h =
    ap₂ (λ (ms : List ℕ) (k : ℕ). ms ++ marked_from k (drop k marks)) e at ∙ here (get_or marks n false)
    ∙ sym (ap (λ (bs : List Bool). before ++ marked_from n bs) (drop_more marks n false lt)) ∙ h
  where
    here : (b : Bool) → (if b then before ++ n ∷ [] else before) ++ marked_from (n + 1) (drop (n + 1) marks) ≡ before ++ marked_from n (b ∷ drop (n + 1) marks)
    here true = append_assoc before (n ∷ []) (marked_from (n + 1) (drop (n + 1) marks)) ∙ ap (λ k. before ++ n ∷ marked_from k (drop (n + 1) marks)) (add-one n)
    here false = ap (λ k. before ++ marked_from k (drop (n + 1) marks)) (add-one n)

pub below_next : (n : ℕ) (before after : List ℕ) (mark : Bool) → after ≡ (if mark then before ++ n ∷ [] else before) → list_all (λ m. nat_lt m n) before ≡ true → list_all (λ m. nat_lt m (n + 1)) after ≡ true
below_next n before after mark e h = ap (list_all (λ m. nat_lt m (n + 1))) e ∙ go mark
  where
    go : (b : Bool) → list_all (λ m. nat_lt m (n + 1)) (if b then before ++ n ∷ [] else before) ≡ true
    go true = smaller_push n (n + 1) before (omega arith) h
    go false = smaller_more n (n + 1) before (omega arith) h

pub count_next : (n : ℕ) (before after : List ℕ) (mark : Bool) → after ≡ (if mark then before ++ n ∷ [] else before) → length after ≤ length before + 1
count_next n before after mark e = omega (arith, ap (λ (ms : List ℕ). length ms) e, go mark)
  where
    go : (b : Bool) → length (if b then before ++ n ∷ [] else before) ≤ length before + 1
    go true = omega (arith, length_push before n)
    go false = omega arith

pub signals_next : (count n x : ℕ) (before all signals new : List ℕ) (marks : List Bool) → n < length marks → new ≡ signals ++ x ∷ [] → length signals ≡ n → before ++ marked_from n (drop n marks) ≡ all → list_all (λ m. nat_lt m n) before ≡ true
    → x ≡ (if nat_lt n (count + 1) then n else count + 1 + length before) → ((m : ℕ) → m < n → HasSignal count all m → number_at signals m ≡ signal_of count all m)
    → (m : ℕ) → m < n + 1 → HasSignal count all m → number_at new m ≡ signal_of count all m
signals_next count n x before all signals new marks inside e long split low is old m lt has =
    ap (λ (ns : List ℕ). number_at ns m) e ∙ elim (cases_lt m n) [
      | inl less ↦ get_or_append_left signals (x ∷ []) 0 m (omega (arith, less, long)) ∙ old m less has
      | inr ge ↦
          let same : m ≡ n = omega (arith, lt, ge) in
          get_or_push signals x 0 m (omega (arith, same, long)) ∙ is
          ∙ signal_given count n before all (get_or marks n false) (drop (n + 1) marks) (sym (ap (λ (bs : List Bool). before ++ marked_from n bs) (drop_more marks n false inside)) ∙ split) low (subst (HasSignal count all) same has)
          ∙ ap (signal_of count all) (sym same)
    ]
