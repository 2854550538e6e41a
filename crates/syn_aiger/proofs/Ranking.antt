-- Where each AND reads what has a smaller rank, no ANDs read each other in a circle; the order of a file is such a rank where each reads only what stands above it.
use Rattle.std.specs.List.{AllByRecursion, list_any}
use Rattle.std.proofs.Common.{◌≡◌, ℕ, zero, suc, ◌^◌, ◌<◌, ◌&&◌, ◌||◌, not, nat_eq, Bool, true, false, if◌then◌else◌, List, [], ◌∷◌, ◌++◌, length, map, decimal, refl, sym, ap, ◌∙◌, subst, inl, inr, ◌⊎◌, append_assoc, arith, eq-eqb}
use Rattle.std.proofs.lemmas.Bool.{and_parts, or_cases, or_parts, not-true, both_ways, cond-true, cond-false, cases_Bool}
use Rattle.std.proofs.lemmas.Fmt.{decimal_injective}
use Rattle.syn_netlist.specs.Lists.{Table}
use Rattle.syn_lists.specs.Numbers.{has_number}
use Rattle.syn_netlist.specs.Faults.{EachReadsAnother}
use Rattle.syn_netlist.proofs.CyclicSets.{In, to_in}
use Rattle.syn_aiger_files.specs.declared.files.Aig.{Aig}
use Rattle.syn_aiger_files.specs.declared.files.AigAnd.{AigAnd}
use Rattle.syn_aiger_files.specs.Files.{variable_of}
use Rattle.syn_aiger.specs.Ranks.{ReadsBelow}
use Rattle.syn_aiger.specs.Values.{NoCircle, and_table, and_variable, reads_above}

-- the AND's numbers are those of a file
abbrev pub HasFew : AigAnd → Type 0
HasFew a = (a.literal < 2 ^ 64) × ((a.first < 2 ^ 64) × (a.second < 2 ^ 64))

pub and_of_table : (P : AigAnd → Type 0) (ands : List AigAnd) (t : Table) → AllByRecursion P ands → In (map and_table ands) t → (a : AigAnd) × (and_table a ≡ t) × P a
and_of_table P [] t h i = absurd i
and_of_table P (a ∷ ands) t h (inl e) = (a, e, h.0)
and_of_table P (a ∷ ands) t h (inr i) = and_of_table P ands t h.1 i

module _ (rank : ℕ → ℕ) (ands : List AigAnd) (below : AllByRecursion (ReadsBelow rank) ands) (few : AllByRecursion HasFew ands) (set : List ℕ → Bool) (each : EachReadsAnother (map and_table ands) set) where
  both : (xs : List AigAnd) → AllByRecursion (ReadsBelow rank) xs → AllByRecursion HasFew xs → AllByRecursion (λ a. ReadsBelow rank a × HasFew a) xs
  both [] h k = tt
  both (x ∷ xs) h k = ((h.0, k.0), both xs h.1 k.1)

  -- an AND whose name is in the set reads one whose name is
  reads : (word : List ℕ) → set word ≡ true → (a : AigAnd) × (decimal (and_variable a) ≡ word) × (ReadsBelow rank a × HasFew a) × ((set (decimal (variable_of a.first)) ≡ true) ⊎ (set (decimal (variable_of a.second)) ≡ true))
  reads word h =
      let t = each word h in
      let a = and_of_table (λ a. ReadsBelow rank a × HasFew a) ands t.0 (both ands below few) (to_in (map and_table ands) t.0 t.1.0 t.1.1 t.1.2) in
      let any : (set (decimal (variable_of a.0.first)) || (set (decimal (variable_of a.0.second)) || false)) ≡ true = subst (λ (u : Table). list_any set u.inputs ≡ true) (sym a.1) t.3 in (
        a.0,
        ap (λ (u : Table). u.output) a.1 ∙ t.2,
        a.2,
        elim (or_cases (set (decimal (variable_of a.0.first))) (set (decimal (variable_of a.0.second)) || false) any) [
          | inl e ↦ inl e
          | inr e ↦ elim (or_cases (set (decimal (variable_of a.0.second))) false e) [
            | inl f ↦ inr f
            | inr f ↦ absurd (both_ways false refl f)
          ]
        ],
      )

  none_in : (k v : ℕ) → v < 2 ^ 64 → rank v < k → set (decimal v) ≡ true → ⊥
  none_in zero v small l h = omega arith
  none_in (suc k) v small l h =
      let a = reads (decimal v) h in
      let b : rank (variable_of a.0.first) < rank (and_variable a.0) = a.2.0.0 in
      let c : rank (variable_of a.0.second) < rank (and_variable a.0) = a.2.0.1 in
      let p : a.0.literal < 2 ^ 64 = a.2.1.0 in
      let q : a.0.first < 2 ^ 64 = a.2.1.1.0 in
      let r : a.0.second < 2 ^ 64 = a.2.1.1.1 in
      let same : rank (and_variable a.0) ≡ rank v = ap rank (decimal_injective (and_variable a.0) v (omega arith) small a.1) in
      elim a.3 [
        | inl e ↦ none_in k (variable_of a.0.first) (omega arith) (omega arith) e
        | inr e ↦ none_in k (variable_of a.0.second) (omega arith) (omega arith) e
      ]

  none_at_all : (word : List ℕ) → set word ≡ true → ⊥
  none_at_all word h =
      let a = reads word h in
      let p : a.0.literal < 2 ^ 64 = a.2.1.0 in
      none_in (suc (rank (and_variable a.0))) (and_variable a.0) (omega arith) (omega arith) (ap set a.1 ∙ h)

-- Ranked ANDs have no circle.
pub ranked_no_circle : (rank : ℕ → ℕ) (g : Aig) → AllByRecursion (ReadsBelow rank) g.ands → AllByRecursion HasFew g.ands → NoCircle g
ranked_no_circle rank g below few = λ name r. none_at_all rank g.ands below few r.0 r.1 name r.2

-- the order of a file

-- the place of a number in a list, its length where it isn't there
abbrev pub number_place : List ℕ → ℕ → ℕ
number_place [] v = 0
number_place (n ∷ ns) v = if nat_eq n v then 0 else suc (number_place ns v)

-- each AND defines a variable that is not known
abbrev pub defines_new : List ℕ → List AigAnd → Bool
defines_new known [] = true
defines_new known (a ∷ ands) = not (has_number known (and_variable a)) && defines_new (known ++ and_variable a ∷ []) ands

pub place_known : (known more : List ℕ) (v : ℕ) → has_number known v ≡ true → number_place (known ++ more) v < length known
place_known [] more v h = absurd (both_ways false refl h)
place_known (n ∷ ns) more v h = elim (cases_Bool (nat_eq n v)) [
  | inl e ↦ let p = cond-true (nat_eq n v) 0 (suc (number_place (ns ++ more) v)) e in omega arith
  | inr f ↦
      let p = cond-false (nat_eq n v) 0 (suc (number_place (ns ++ more) v)) f in
      let q = place_known ns more v (elim (or_cases (nat_eq n v) (has_number ns v) h) [ inl e ↦ absurd (both_ways (nat_eq n v) f e) | inr t ↦ t ]) in
      omega arith
]

pub place_new : (known more : List ℕ) (v : ℕ) → has_number known v ≡ false → number_place (known ++ v ∷ more) v ≡ length known
place_new [] more v h = cond-true (nat_eq v v) 0 (suc (number_place more v)) (eq-eqb v v refl)
place_new (n ∷ ns) more v h =
    let parts = or_parts (nat_eq n v) (has_number ns v) h in
    cond-false (nat_eq n v) 0 (suc (number_place (ns ++ v ∷ more) v)) parts.0 ∙ ap suc (place_new ns more v parts.1)

-- The order of a file is a rank, where each AND reads only what stands above it.
pub order_ranks : (known : List ℕ) (ands : List AigAnd) → reads_above known ands ≡ true → defines_new known ands ≡ true → AllByRecursion (ReadsBelow (number_place (known ++ map and_variable ands))) ands
order_ranks known [] h d = tt
order_ranks known (a ∷ ands) h d =
    let p = and_parts (has_number known (variable_of a.first)) (has_number known (variable_of a.second) && reads_above (known ++ and_variable a ∷ []) ands) h in
    let q = and_parts (has_number known (variable_of a.second)) (reads_above (known ++ and_variable a ∷ []) ands) p.1 in
    let n = and_parts (not (has_number known (and_variable a))) (defines_new (known ++ and_variable a ∷ []) ands) d in
    let more : List ℕ = map and_variable ands in
    let own = place_new known more (and_variable a) (not-true (has_number known (and_variable a)) n.0) in
    let first = place_known known (and_variable a ∷ more) (variable_of a.first) p.0 in
    let second = place_known known (and_variable a ∷ more) (variable_of a.second) q.0 in
    ((omega arith, omega arith), subst (λ (l : List ℕ). AllByRecursion (ReadsBelow (number_place l)) ands) (append_assoc known (and_variable a ∷ []) more) (order_ranks (known ++ and_variable a ∷ []) ands q.1 n.1))

pub in_order_no_circle : (known : List ℕ) (g : Aig) → reads_above known g.ands ≡ true → defines_new known g.ands ≡ true → AllByRecursion HasFew g.ands → NoCircle g
in_order_no_circle known g h d few = ranked_no_circle (number_place (known ++ map and_variable g.ands)) g (order_ranks known g.ands h d) few
