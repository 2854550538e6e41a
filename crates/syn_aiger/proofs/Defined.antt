-- A spelled file defines each variable once, and where each of its ANDs reads only what stands above it, it has no circle.
use Rattle.std.specs.List.{AllByRecursion}
use Rattle.std.proofs.Common.{◌≡◌, ℕ, ◌+◌, ◌*◌, ◌^◌, ◌<◌, ◌≤◌, not, nat_eq, true, false, List, [], ◌∷◌, ◌++◌, map, refl, sym, ap, ◌∙◌, append_assoc, arith, eq-eqb, ne_eqb}
use Rattle.std.proofs.lemmas.Bool.{and_from, and_parts, or_from, or_left, both_ways, not-true, not_from_false}
use Rattle.std.proofs.lemmas.List.{map-append}
use Rattle.syn_lists.specs.Numbers.{distinct_numbers, has_number}
use Rattle.syn_aiger_files.specs.declared.files.Aig.{Aig}
use Rattle.syn_aiger_files.specs.declared.files.AigAnd.{AigAnd}
use Rattle.syn_aiger_files.specs.Files.{and_literal, latch_literal, variable_of}
use Rattle.syn_aiger_files.specs.Spelling.{most_variables}
use Rattle.syn_aiger_files.proofs.Spelled.{NewOnes, SidesFit, may_parts, new_distinct, not_zero, spelled_sound}
use Rattle.syn_aiger.specs.Values.{and_variable, defined_variables, source_variables}
use Rattle.syn_aiger.specs.Laws.{OrderHasNoCircle, SpelledDefinesOnce}
use Rattle.syn_aiger.proofs.Sound.{and_variables, has_right}
use Rattle.syn_aiger.proofs.Ranking.{HasFew, defines_new, in_order_no_circle}

pub defined_are : (g : Aig) → defined_variables g ≡ 0 ∷ map variable_of (g.inputs ++ (map latch_literal g.latches ++ map and_literal g.ands))
defined_are g =
    ap (λ (l : List ℕ). 0 ∷ l) (
    ap (λ (l : List ℕ). source_variables g ++ l) (and_variables g.ands)
    ∙ sym (map-append variable_of (g.inputs ++ map latch_literal g.latches) (map and_literal g.ands))
    ∙ ap (map variable_of) (append_assoc g.inputs (map latch_literal g.latches) (map and_literal g.ands)))

pub spelled_defines_once : SpelledDefinesOnce
spelled_defines_once properties bytes g e =
    let s = (spelled_sound properties bytes g e).1 in
    let most : ℕ = 2 * g.variables + 1 in
    let ls : List ℕ = g.inputs ++ (map latch_literal g.latches ++ map and_literal g.ands) in
    ap distinct_numbers (defined_are g)
    ∙ and_from (not (has_number (map variable_of ls) 0)) (distinct_numbers (map variable_of ls)) (not_from_false (has_number (map variable_of ls) 0) (not_zero most [] ls s.new)) (new_distinct most [] ls s.new)

pub number_before : (known : List ℕ) (x : ℕ) (more : List ℕ) → distinct_numbers (known ++ x ∷ more) ≡ true → has_number known x ≡ false
number_before [] x more d = refl
number_before (k ∷ ks) x more d =
    let p = and_parts (not (has_number (ks ++ x ∷ more) k)) (distinct_numbers (ks ++ x ∷ more)) d in
    let no = not-true (has_number (ks ++ x ∷ more) k) p.0 in
    or_from (nat_eq k x) (has_number ks x)
    (ne_eqb k x (λ e. both_ways (has_number (ks ++ x ∷ more) k) no (has_right ks (x ∷ more) k (or_left (nat_eq x k) (has_number more k) (eq-eqb x k (sym e))))))
    (number_before ks x more p.1)

pub defines_from_distinct : (known : List ℕ) (ands : List AigAnd) → distinct_numbers (known ++ map and_variable ands) ≡ true → defines_new known ands ≡ true
defines_from_distinct known [] d = refl
defines_from_distinct known (a ∷ ands) d =
    and_from (not (has_number known (and_variable a))) (defines_new (known ++ and_variable a ∷ []) ands)
    (not_from_false (has_number known (and_variable a)) (number_before known (and_variable a) (map and_variable ands) d))
    (defines_from_distinct (known ++ and_variable a ∷ []) ands (ap distinct_numbers (append_assoc known (and_variable a ∷ []) (map and_variable ands)) ∙ d))

pub all_at_most : (most : ℕ) (ds ls : List ℕ) → NewOnes most ds ls → AllByRecursion (λ l. l ≤ most) ls
all_at_most most ds [] h = tt
all_at_most most ds (l ∷ ls) h = ((may_parts most ds l h.0).most_at, all_at_most most (l ∷ ds) ls h.1)

pub all_right : {X : Type 0} (P : X → Type 0) (xs ys : List X) → AllByRecursion P (xs ++ ys) → AllByRecursion P ys
all_right P [] ys h = h
all_right P (x ∷ xs) ys h = all_right P xs ys h.1

pub few_from : (most : ℕ) (ands : List AigAnd) → most < 2 ^ 64 → AllByRecursion (λ l. l ≤ most) (map and_literal ands) → AllByRecursion (SidesFit most) ands → AllByRecursion HasFew ands
few_from most [] small h k = tt
few_from most (a ∷ ands) small h k =
    let p : a.literal ≤ most = h.0 in
    let q : a.first ≤ most = k.0.0 in
    let r : a.second ≤ most = k.0.1 in
    ((omega arith, (omega arith, omega arith)), few_from most ands small h.1 k.1)

pub order_has_no_circle : OrderHasNoCircle
order_has_no_circle properties bytes g e above =
    let f = spelled_sound properties bytes g e in
    let small : g.variables ≤ most_variables = f.0 in
    let most : ℕ = 2 * g.variables + 1 in
    let latches : List ℕ = map latch_literal g.latches in
    let ands : List ℕ = map and_literal g.ands in
    in_order_no_circle (0 ∷ source_variables g) g above
    (defines_from_distinct (0 ∷ source_variables g) g.ands (spelled_defines_once properties bytes g e))
    (few_from most g.ands (omega arith) (all_right (λ l. l ≤ most) latches ands (all_right (λ l. l ≤ most) g.inputs (latches ++ ands) (all_at_most most [] (g.inputs ++ (latches ++ ands)) f.1.new))) f.1.sides)
