-- A file that can be written defines all that it reads, and has no circle; so what is written of it spells it.
use Rattle.std.specs.List.{AllByRecursion, list_all}
use Rattle.std.proofs.Common.{◌≡◌, ℕ, zero, suc, ◌+◌, ◌*◌, ◌/◌, ◌^◌, ◌<◌, ◌≤◌, ◌&&◌, not, nat_eq, nat_le, nat_lt, true, List, [], ◌∷◌, ◌++◌, length, map, flat_map, find, None, Some, refl, ap, ◌∙◌, inl, inr, arith, le-leb, leb-true, ltb-true, eq-eqb}
use Rattle.std.proofs.lemmas.Bool.{and_parts, and_from, or_left, or_right, cases_eq, cases_lt, cond-false, not_from_true}
use Rattle.std.proofs.lemmas.List.{map-append}
use Rattle.std.proofs.lemmas.List.Folds.{list_all-append, list_any-append}
use Rattle.syn_lists.specs.Numbers.{has_number}
use Rattle.syn_aiger_files.specs.declared.files.Aig.{Aig}
use Rattle.syn_aiger_files.specs.declared.files.AigAnd.{AigAnd}
use Rattle.syn_aiger_files.specs.declared.files.AigLatch.{AigLatch}
use Rattle.syn_aiger_files.specs.Files.{and_literal, latch_literal, next_of, variable_of}
use Rattle.syn_aiger_files.specs.Laws.{IsNormal, and_is_normal, latch_is_normal}
use Rattle.syn_aiger_files.specs.Literals.{literals_from}
use Rattle.syn_aiger_files.specs.Parts.{is_reset, may_read}
use Rattle.syn_aiger.specs.Values.{NoCircle, and_variable, defined_variables, first_undefined, read_literals, right_sides, source_variables}
use Rattle.syn_aiger.specs.Laws.{PrintedSpells}
use Rattle.syn_aiger.specs.Ranks.{ReadsBelow}
use Rattle.syn_aiger.proofs.Ranking.{HasFew, ranked_no_circle}
use Rattle.syn_aiger_files.proofs.Written.{written_says}

pub has_left : (xs ys : List ℕ) (k : ℕ) → has_number xs k ≡ true → has_number (xs ++ ys) k ≡ true
has_left xs ys k h = list_any-append (λ n. nat_eq n k) xs ys ∙ or_left (has_number xs k) (has_number ys k) h

pub has_right : (xs ys : List ℕ) (k : ℕ) → has_number ys k ≡ true → has_number (xs ++ ys) k ≡ true
has_right xs ys k h = list_any-append (λ n. nat_eq n k) xs ys ∙ or_right (has_number xs k) (has_number ys k) h

variables_from : (v n k : ℕ) → v ≤ k → k < v + n → has_number (map variable_of (literals_from v n)) k ≡ true
variables_from v zero k le lt = absurd (omega arith)
variables_from v (suc n) k le lt = elim (cases_eq k v) [
  | inl e ↦ or_left (nat_eq (2 * v / 2) k) (has_number (map variable_of (literals_from (v + 1) n)) k) (eq-eqb (2 * v / 2) k (omega arith))
  | inr f ↦ or_right (nat_eq (2 * v / 2) k) (has_number (map variable_of (literals_from (v + 1) n)) k)
      (variables_from (v + 1) n k (elim (cases_lt v k) [ inl l ↦ omega arith | inr g ↦ absurd (f (omega arith)) ]) (omega arith))
]

pub and_variables : (ands : List AigAnd) → map and_variable ands ≡ map variable_of (map and_literal ands)
and_variables [] = refl
and_variables (a ∷ ands) = ap (λ (l : List ℕ). and_variable a ∷ l) (and_variables ands)

sources_there : (g : Aig) (k : ℕ) → IsNormal g → 1 ≤ k → k ≤ length g.inputs + length g.latches → has_number (source_variables g) k ≡ true
sources_there g k n some le =
    let is = map-append variable_of g.inputs (map latch_literal g.latches) in
    ap (λ (l : List ℕ). has_number l k) is ∙ elim (cases_lt (length g.inputs) k) [
      | inl l ↦ has_right (map variable_of g.inputs) (map variable_of (map latch_literal g.latches)) k (ap (λ (ls : List ℕ). has_number (map variable_of ls) k) n.latches ∙ variables_from (length g.inputs + 1) (length g.latches) k (omega arith) (omega arith))
      | inr r ↦ has_left (map variable_of g.inputs) (map variable_of (map latch_literal g.latches)) k (ap (λ (ls : List ℕ). has_number (map variable_of ls) k) n.inputs ∙ variables_from 1 (length g.inputs) k (omega arith) (omega arith))
    ]

all_defined : (g : Aig) (k : ℕ) → IsNormal g → k ≤ g.variables → has_number (defined_variables g) k ≡ true
all_defined g k n le = elim (cases_lt 0 k) [
  | inr z ↦ or_left (nat_eq 0 k) (has_number (source_variables g ++ map and_variable g.ands) k) (eq-eqb 0 k (omega arith))
  | inl s ↦ or_right (nat_eq 0 k) (has_number (source_variables g ++ map and_variable g.ands) k) (elim (cases_lt (length g.inputs + length g.latches) k) [
    | inl l ↦ has_right (source_variables g) (map and_variable g.ands) k
        (ap (λ (ls : List ℕ). has_number ls k) (and_variables g.ands) ∙ ap (λ (ls : List ℕ). has_number (map variable_of ls) k) n.ands
        ∙ variables_from (length g.inputs + length g.latches + 1) (length g.ands) k (omega arith) (let e = n.variables in omega arith))
    | inr r ↦ has_left (source_variables g) (map and_variable g.ands) k (sources_there g k n s r)
  ])
]

-- what is read

next_read : (most : ℕ) (ls : List AigLatch) → list_all (latch_is_normal most) ls ≡ true → list_all (may_read most) (map next_of ls) ≡ true
next_read most [] h = refl
next_read most (a ∷ ls) h =
    let p = and_parts (latch_is_normal most a) (list_all (latch_is_normal most) ls) h in
    and_from (may_read most a.next) (list_all (may_read most) (map next_of ls)) (and_parts (may_read most a.next) (is_reset a.literal a.reset) p.0).0 (next_read most ls p.1)

module _ (most : ℕ) (short : most < 2 ^ 63) where
  sides_read : (v : ℕ) (ands : List AigAnd) → map and_literal ands ≡ literals_from v (length ands) → 2 * (v + length ands) ≤ most + 2 → list_all and_is_normal ands ≡ true → list_all (may_read most) (flat_map right_sides ands) ≡ true
  sides_read v [] e few h = refl
  sides_read v (a ∷ ands) e few h =
      let here : a.literal ≡ 2 * v = cc in
      let rest : map and_literal ands ≡ literals_from (v + 1) (length ands) = cc in
      let p = and_parts (and_is_normal a) (list_all and_is_normal ands) h in
      let q = and_parts (nat_lt a.first a.literal) (nat_le a.second a.first) p.0 in
      let first = ltb-true a.first a.literal q.0 in
      let second = leb-true a.second a.first q.1 in
      and_from (may_read most a.first) (may_read most a.second && list_all (may_read most) (flat_map right_sides ands)) (le-leb a.first most (omega arith))
      (and_from (may_read most a.second) (list_all (may_read most) (flat_map right_sides ands)) (le-leb a.second most (omega arith))
      (sides_read (v + 1) ands rest (omega arith) p.1))

  sides_below : (v : ℕ) (ands : List AigAnd) → map and_literal ands ≡ literals_from v (length ands) → 2 * (v + length ands) ≤ most + 2 → list_all and_is_normal ands ≡ true → AllByRecursion (ReadsBelow (λ n. n)) ands × AllByRecursion HasFew ands
  sides_below v [] e few h = (tt, tt)
  sides_below v (a ∷ ands) e few h =
      let here : a.literal ≡ 2 * v = cc in
      let rest : map and_literal ands ≡ literals_from (v + 1) (length ands) = cc in
      let p = and_parts (and_is_normal a) (list_all and_is_normal ands) h in
      let q = and_parts (nat_lt a.first a.literal) (nat_le a.second a.first) p.0 in
      let first = ltb-true a.first a.literal q.0 in
      let second = leb-true a.second a.first q.1 in
      let more = sides_below (v + 1) ands rest (omega arith) p.1 in
      (((omega arith, omega arith), more.0), ((omega arith, (omega arith, omega arith)), more.1))

none_found : (ds : List ℕ) (variables : ℕ) → ((k : ℕ) → k ≤ variables → has_number ds k ≡ true) → (ls : List ℕ) → list_all (may_read (2 * variables + 1)) ls ≡ true → find (λ v. not (has_number ds v)) (map variable_of ls) ≡ None
none_found ds variables all [] h = refl
none_found ds variables all (l ∷ ls) h =
    let p = and_parts (may_read (2 * variables + 1) l) (list_all (may_read (2 * variables + 1)) ls) h in
    let le = leb-true l (2 * variables + 1) p.0 in
    cond-false (not (has_number ds (variable_of l))) (Some (variable_of l)) (find (λ v. not (has_number ds v)) (map variable_of ls)) (not_from_true (has_number ds (variable_of l)) (all (variable_of l) (omega arith)))
    ∙ none_found ds variables all ls p.1

most_short : (g : Aig) → IsNormal g → 2 * g.variables + 1 < 2 ^ 63
most_short g n = let f = n.few in omega arith

few_ands : (g : Aig) → IsNormal g → 2 * (length g.inputs + length g.latches + 1 + length g.ands) ≤ 2 * g.variables + 1 + 2
few_ands g n = let e = n.variables in omega arith

pub normal_defined : (g : Aig) → IsNormal g → first_undefined g ≡ None
normal_defined g n =
    let most : ℕ = 2 * g.variables + 1 in
    none_found (defined_variables g) g.variables (λ k le. all_defined g k n le) (read_literals g)
    (list_all-append (may_read most) (map next_of g.latches) (g.outputs ++ flat_map right_sides g.ands)
    ∙ and_from (list_all (may_read most) (map next_of g.latches)) (list_all (may_read most) (g.outputs ++ flat_map right_sides g.ands)) (next_read most g.latches n.normal_latches)
    (list_all-append (may_read most) g.outputs (flat_map right_sides g.ands)
    ∙ and_from (list_all (may_read most) g.outputs) (list_all (may_read most) (flat_map right_sides g.ands)) n.read_outputs
    (sides_read most (most_short g n) (length g.inputs + length g.latches + 1) g.ands n.ands (few_ands g n) n.normal_ands)))

pub normal_no_circle : (g : Aig) → IsNormal g → NoCircle g
normal_no_circle g n =
    let s = sides_below (2 * g.variables + 1) (most_short g n) (length g.inputs + length g.latches + 1) g.ands n.ands (few_ands g n) n.normal_ands in
    ranked_no_circle (λ n. n) g s.0 s.1

pub printed_spells : PrintedSpells
printed_spells properties g n ascii = record { says = written_says properties g n ascii; defined = normal_defined g n; acyclic = normal_no_circle g n }
