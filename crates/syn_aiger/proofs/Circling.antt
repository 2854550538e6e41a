-- Circles of the ANDs' tables are of variables of ANDs.
use Rattle.std.specs.List.{list_all}
use Rattle.std.proofs.Common.{◌≡◌, ℕ, ◌^◌, ◌<◌, ◌||◌, not, nat_eq, Bool, true, false, List, [], ◌∷◌, map, decimal, bytes_eq, refl, sym, ap, ap₂, ◌∙◌, subst, inl, inr, eq-eqb, eqb-true}
use Rattle.std.proofs.lemmas.Bool.{and_from, and_parts, or_cases, or_right, both_ways, not-true, not_from_false, false_from_ne_true}
use Rattle.std.proofs.lemmas.Fmt.{decimal_injective}
use Rattle.syn_netlist.specs.Faults.{AnswersCircle, IsCircle, ReadInTurn, TableReads}
use Rattle.syn_netlist.specs.Lists.{Table, output_of}
use Rattle.syn_lists.specs.Numbers.{distinct_numbers, has_number}
use Rattle.syn_netlist.specs.Words.{distinct, has_word}
use Rattle.syn_netlist.proofs.Checked.{answered_is_circle}
use Rattle.syn_netlist.proofs.CyclicSets.{in_has, to_in}
use Rattle.syn_netlist.proofs.Sets.{same_word, word_same}
use Rattle.syn_aiger_files.specs.declared.files.Aig.{Aig}
use Rattle.syn_aiger_files.specs.declared.files.AigAnd.{AigAnd}
use Rattle.syn_aiger.specs.Values.{and_table, and_tables, and_variable, variable_word}

-- each number of the list is small enough to be written by its digits
abbrev pub AllSmall : List ℕ → Type 0
AllSmall ns = (v : ℕ) → has_number ns v ≡ true → v < 2 ^ 64

pub outputs_are : (ands : List AigAnd) → map output_of (map and_table ands) ≡ map variable_word (map and_variable ands)
outputs_are [] = refl
outputs_are (a ∷ ands) = ap (λ (l : List (List ℕ)). variable_word (and_variable a) ∷ l) (outputs_are ands)

-- words of numbers

pub has_variable : (ns : List ℕ) (v : ℕ) → has_number ns v ≡ true → has_word (map variable_word ns) (variable_word v) ≡ true
has_variable [] v h = absurd (both_ways false refl h)
has_variable (n ∷ ns) v h = elim (or_cases (nat_eq n v) (has_number ns v) h) [
  | inl e ↦ ap (λ (b : Bool). b || has_word (map variable_word ns) (variable_word v)) (ap (λ (k : ℕ). bytes_eq (decimal k) (decimal v)) (eqb-true n v e) ∙ word_same (decimal v))
  | inr t ↦ or_right (bytes_eq (decimal n) (decimal v)) (has_word (map variable_word ns) (variable_word v)) (has_variable ns v t)
]

-- a word of numbers is one's
pub number_behind : (ns : List ℕ) (w : List ℕ) → has_word (map variable_word ns) w ≡ true → (v : ℕ) × (has_number ns v ≡ true) × (variable_word v ≡ w)
number_behind [] w h = absurd (both_ways false refl h)
number_behind (n ∷ ns) w h = elim (or_cases (bytes_eq (decimal n) w) (has_word (map variable_word ns) w) h) [
  | inl e ↦ (n, ap (λ (b : Bool). b || has_number ns n) (eq-eqb n n refl), same_word (decimal n) w e)
  | inr t ↦ let r = number_behind ns w t in (r.0, or_right (nat_eq n r.0) (has_number ns r.0) r.1, r.2)
]

pub no_variable : (ns : List ℕ) (v : ℕ) → AllSmall ns → v < 2 ^ 64 → has_number ns v ≡ false → has_word (map variable_word ns) (variable_word v) ≡ false
no_variable ns v small l h = false_from_ne_true (has_word (map variable_word ns) (variable_word v)) (λ t.
    let r = number_behind ns (variable_word v) t in
    both_ways (has_number ns v) h (ap (has_number ns) (decimal_injective v r.0 l (small r.0 r.1) (sym r.2)) ∙ r.1))

pub words_distinct : (ns : List ℕ) → AllSmall ns → distinct_numbers ns ≡ true → distinct (map variable_word ns) ≡ true
words_distinct [] small d = refl
words_distinct (n ∷ ns) small d =
    let p = and_parts (not (has_number ns n)) (distinct_numbers ns) d in
    let more : AllSmall ns = λ v h. small v (or_right (nat_eq n v) (has_number ns v) h) in
    and_from (not (has_word (map variable_word ns) (variable_word n))) (distinct (map variable_word ns))
    (not_from_false (has_word (map variable_word ns) (variable_word n)) (no_variable ns n more (small n (ap (λ (b : Bool). b || has_number ns n) (eq-eqb n n refl))) (not-true (has_number ns n) p.0)))
    (words_distinct ns more p.1)

pub same_variables : (ns vs us : List ℕ) → AllSmall ns → list_all (has_number ns) vs ≡ true → list_all (has_number ns) us ≡ true → map variable_word vs ≡ map variable_word us → vs ≡ us
same_variables ns [] [] small h k e = refl
same_variables ns [] (u ∷ us) small h k e = absurd (cc)
same_variables ns (v ∷ vs) [] small h k e = absurd (cc)
same_variables ns (v ∷ vs) (u ∷ us) small h k e =
    let p = and_parts (has_number ns v) (list_all (has_number ns) vs) h in
    let q = and_parts (has_number ns u) (list_all (has_number ns) us) k in
    let head : decimal v ≡ decimal u = cc in
    let tail : map variable_word vs ≡ map variable_word us = cc in
    ap₂ (λ (x : ℕ) (xs : List ℕ). x ∷ xs) (decimal_injective v u (small v p.0) (small u q.0) head) (same_variables ns vs us small p.1 q.1 tail)

-- names of a circle

reads_has : (ts : List Table) (name read : List ℕ) → TableReads ts name read → has_word (map output_of ts) name ≡ true
reads_has ts name read r = subst (λ (v : List ℕ). has_word (map output_of ts) v ≡ true) r.2 (in_has ts r.0 (to_in ts r.0 r.1.0 r.1.1 r.1.2))

in_turn : (ts : List Table) (name : List ℕ) (names : List (List ℕ)) (back : List ℕ) → ReadInTurn ts name names back → list_all (has_word (map output_of ts)) (name ∷ names) ≡ true
in_turn ts name [] back r = and_from (has_word (map output_of ts) name) true (reads_has ts name back r) refl
in_turn ts name (next ∷ names) back r = and_from (has_word (map output_of ts) name) (list_all (has_word (map output_of ts)) (next ∷ names)) (reads_has ts name next r.0) (in_turn ts next names back r.1)

circle_names : (ts : List Table) (names : List (List ℕ)) → IsCircle ts names → list_all (has_word (map output_of ts)) names ≡ true
circle_names ts [] c = absurd c
circle_names ts (name ∷ names) c = in_turn ts name names name c

numbers_behind : (ns : List ℕ) (names : List (List ℕ)) → list_all (has_word (map variable_word ns)) names ≡ true → (vs : List ℕ) × (list_all (has_number ns) vs ≡ true) × (map variable_word vs ≡ names)
numbers_behind ns [] h = ([], refl, refl)
numbers_behind ns (w ∷ ws) h =
    let p = and_parts (has_word (map variable_word ns) w) (list_all (has_word (map variable_word ns)) ws) h in
    let v = number_behind ns w p.0 in
    let r = numbers_behind ns ws p.1 in
    (v.0 ∷ r.0, and_from (has_number ns v.0) (list_all (has_number ns) r.0) v.1 r.1, ap₂ (λ (x : List ℕ) (xs : List (List ℕ)). x ∷ xs) v.2 r.2)

-- The names of an answered circle are words of ANDs' variables.
pub circle_words : (g : Aig) (names : List (List ℕ)) → AnswersCircle (and_tables g) names → list_all (has_word (map variable_word (map and_variable g.ands))) names ≡ true
circle_words g names c = subst (λ (ws : List (List ℕ)). list_all (has_word ws) names ≡ true) (outputs_are g.ands) (circle_names (and_tables g) names (answered_is_circle (and_tables g) names c))

pub circle_variables : (g : Aig) (names : List (List ℕ)) → AnswersCircle (and_tables g) names → (vs : List ℕ) × (list_all (has_number (map and_variable g.ands)) vs ≡ true) × (map variable_word vs ≡ names)
circle_variables g names c = numbers_behind (map and_variable g.ands) names (circle_words g names c)
