-- Totals of words by models, and recursion found by the checker of netlists.
use Rattle.std.proofs.lemmas.List.{length-map}
use Rattle.std.proofs.Common.{suc, length-append, ◌++◌, ◌≡◌, ℕ, ◌+◌, ◌≤◌, ◌<◌, nat_lt, Bool, true, false, List, [], ◌∷◌, map, flat_map, refl, sym, ap, ◌∙◌, subst, inl, inr, Some, arith}
use Rattle.std.specs.List.{list_all}
use Rattle.std.proofs.lemmas.Bool.{cases_lt, cond-true, cond-false, lt-ltb, le-ltb, and_from, both_ways}
use Rattle.syn_netlist.specs.Words.{has_word}
use Rattle.syn_netlist.specs.Lists.{output_of}
use Rattle.syn_netlist.specs.Faults.{inputs_of as table_inputs}
use Rattle.syn_netlist.proofs.Checked.{orderable_reaches_no_circle}
use Rattle.syn_models.specs.Models.{name_of, Subcircuit, StatementKind, Inputs, Outputs, Clock, OneLatch, OneTable, OneSubcircuit, Statement, Model, all_of, model_named, subcircuits_in}
use Rattle.syn_models.specs.Opening.{Opened, End, Plain, Instance, Opens, instances, words_inside, is_subcircuit}
use Rattle.syn_models.specs.Flattening.{called_inside}
use Rattle.syn_models.specs.Families.{names_inside}
use Rattle.syn_models.specs.FlatFaults.{told, greatest, model_of, contents}
use Rattle.syn_models.specs.Totals.{told_sum, total_of, TotalsAreTold, containing, CheckTellsRecursion, WordsBoundNames}
use Rattle.syn_models.proofs.Driven.{find_none}
use Rattle.syn_models.proofs.Once.{all_append}
use Rattle.syn_models.proofs.Existing.{Among, Known, named_among, among_has}
use Rattle.syn_models.proofs.Faults.{models_known, names_of_contents}

pub told_few : (n : ℕ) → n ≤ greatest → told n ≡ n
told_few n l = cond-false (nat_lt greatest n) greatest n (le-ltb greatest n l)

pub told_many : (n : ℕ) → greatest < n → told n ≡ greatest
told_many n l = cond-true (nat_lt greatest n) greatest n (lt-ltb greatest n l)

told_top : (n : ℕ) → greatest ≤ n → told n ≡ greatest
told_top n l = elim (cases_lt greatest n) [ inl m ↦ told_many n m | inr m ↦ told_few n m ∙ (let e : n ≡ greatest = omega arith in e) ]

-- a sum with a told number is told as the sum itself
told_left : (a b : ℕ) → told (told a + b) ≡ told (a + b)
told_left a b = elim (cases_lt greatest a) [
  | inl l ↦ ap (λ (k : ℕ). told (k + b)) (told_many a l) ∙ told_top (greatest + b) (omega arith) ∙ sym (told_top (a + b) (omega arith))
  | inr l ↦ ap (λ (k : ℕ). told (k + b)) (told_few a l)
]

-- the names of models that statements contain
abbrev contained_in : List Statement → List (List ℕ)
contained_in ss = map model_of (flat_map (λ (s : Statement). subcircuits_in s.kind) ss)

plain_contains : (kind : StatementKind) → is_subcircuit kind ≡ false → subcircuits_in kind ≡ []
plain_contains (OneSubcircuit c) h = absurd (both_ways true h refl)
plain_contains (OneLatch l) h = refl
plain_contains (OneTable t) h = refl
plain_contains (Inputs ws) h = refl
plain_contains (Outputs ws) h = refl
plain_contains (Clock ws) h = refl

-- the arithmetic of one instance
told_instance : (n t w i r : ℕ) → t ≡ told (w + i) → told (told (n + t) + r) ≡ told (n + (w + (i + r)))
told_instance n t w i r e =
    told_left (n + t) r
    ∙ ap told (let a : n + t + r ≡ t + (n + r) = omega arith in a)
    ∙ ap (λ (k : ℕ). told (k + (n + r))) e
    ∙ told_left (w + i) (n + r)
    ∙ ap told (let a : w + i + (n + r) ≡ n + (w + (i + r)) = omega arith in a)

statements_told : (models : List Model) (totals : List ℕ → ℕ) → ((name : List ℕ) (m : Model) → model_named models name ≡ Some m → totals name ≡ total_of totals m)
    → (n : ℕ) (ss : List Statement) (tree : Opened) → Opens models ss tree → told_sum n (map totals (contained_in ss)) ≡ told (n + words_inside tree)
statements_told models totals h n [] End o = ap told (let e : n ≡ n + 0 = omega arith in e)
statements_told models totals h n [] (Plain kind rest) o = absurd o
statements_told models totals h n [] (Instance c m inside rest) o = absurd o
statements_told models totals h n (s ∷ ss) End o = absurd o
statements_told models totals h n (s ∷ ss) (Plain kind rest) o =
    ap (λ (l : List Subcircuit). told_sum n (map totals (map model_of (l ++ flat_map (λ (s : Statement). subcircuits_in s.kind) ss)))) (ap subcircuits_in o.0 ∙ plain_contains kind o.1)
    ∙ statements_told models totals h n ss rest o.2
statements_told models totals h n (s ∷ ss) (Instance c m inside rest) o =
    ap (λ (l : List Subcircuit). told_sum n (map totals (map model_of (l ++ flat_map (λ (s : Statement). subcircuits_in s.kind) ss)))) (ap subcircuits_in o.0)
    ∙ statements_told models totals h (told (n + totals c.model)) ss rest o.3
    ∙ told_instance n (totals c.model) m.words (words_inside inside) (words_inside rest) (h c.model m o.1 ∙ statements_told models totals h m.words m.statements inside o.2)

pub totals_are_told : TotalsAreTold
totals_are_told models totals h m tree o = statements_told models totals h m.words m.statements tree o

-- recursion

pub inputs_known : (models : List Model) (ss : List Statement) → Known models ss → list_all (has_word (map name_of models)) (contained_in ss) ≡ true
inputs_known models [] k = refl
inputs_known models (s ∷ ss) k = by_kind s.kind refl (inputs_known models ss k.1)
  where
    more : (kind : StatementKind) → s.kind ≡ kind → contained_in (s ∷ ss) ≡ map model_of (subcircuits_in kind ++ flat_map (λ (s : Statement). subcircuits_in s.kind) ss)
    more kind e = ap (λ (l : List Subcircuit). map model_of (l ++ flat_map (λ (s : Statement). subcircuits_in s.kind) ss)) (ap subcircuits_in e)

    by_kind : (kind : StatementKind) → s.kind ≡ kind → list_all (has_word (map name_of models)) (contained_in ss) ≡ true → list_all (has_word (map name_of models)) (contained_in (s ∷ ss)) ≡ true
    by_kind (OneSubcircuit c) e ih =
        let there = k.0 c e in
        let found = named_among models c.model there.0 there.1 in
        ap (list_all (has_word (map name_of models))) (more (OneSubcircuit c) e)
        ∙ and_from (has_word (map name_of models) c.model) (list_all (has_word (map name_of models)) (contained_in ss)) (subst (λ (w : List ℕ). has_word (map name_of models) w ≡ true) found.1 (among_has models there.0 found.0)) ih
    by_kind (OneLatch l) e ih = ap (list_all (has_word (map name_of models))) (more (OneLatch l) e) ∙ ih
    by_kind (OneTable t) e ih = ap (list_all (has_word (map name_of models))) (more (OneTable t) e) ∙ ih
    by_kind (Inputs ws) e ih = ap (list_all (has_word (map name_of models))) (more (Inputs ws) e) ∙ ih
    by_kind (Outputs ws) e ih = ap (list_all (has_word (map name_of models))) (more (Outputs ws) e) ∙ ih
    by_kind (Clock ws) e ih = ap (list_all (has_word (map name_of models))) (more (Clock ws) e) ∙ ih

all_inputs : (test : List ℕ → Bool) (ms : List Model) → ((m : Model) → Among ms m → list_all test (contents m).inputs ≡ true) → list_all test (flat_map table_inputs (map contents ms)) ≡ true
all_inputs test [] h = refl
all_inputs test (m ∷ ms) h = all_append test (contents m).inputs (flat_map table_inputs (map contents ms)) (h m (inl refl)) (all_inputs test ms (λ x i. h x (inr i)))

pub check_tells_recursion : CheckTellsRecursion
check_tells_recursion = record {
  driven = λ models e.
      let all : List Model = all_of models in
      let known = models_known all all e in
      find_none (has_word (map output_of (map contents all))) (flat_map table_inputs (map contents all))
      (all_inputs (has_word (map output_of (map contents all))) all
      (λ m h. subst (λ (l : List (List ℕ)). list_all (has_word l) (contents m).inputs ≡ true) (sym (names_of_contents all)) (inputs_known all m.statements (known m h))));
  checked = λ models k word circle. orderable_reaches_no_circle (containing models) k.order word k.ordered circle;
}

-- bounds

pub words_bound_names : WordsBoundNames
words_bound_names models inner next called [] End h o = (omega arith, omega arith)
words_bound_names models inner next called [] (Plain kind rest) h o = absurd o
words_bound_names models inner next called [] (Instance c m inside rest) h o = absurd o
words_bound_names models inner next called (s ∷ ss) End h o = absurd o
words_bound_names models inner next called (s ∷ ss) (Plain kind rest) h o = words_bound_names models inner next called ss rest h o.2
words_bound_names models inner next called (s ∷ ss) (Instance c m inside rest) h o =
    let own : List ℕ → List ℕ = called_inside called (inner next) c.binds in
    let (one, names) = h c.model m o.1 in
    let (few_in, names_in) = words_bound_names models inner (suc next) own m.statements inside h o.2 in
    let (few, more) = words_bound_names models inner (suc (next + instances inside)) called ss rest h o.3 in (
      omega arith,
      omega (
        arith,
        length-append (map own m.names) (names_inside inner (suc next) own inside ++ names_inside inner (suc (next + instances inside)) called rest),
        length-append (names_inside inner (suc next) own inside) (names_inside inner (suc (next + instances inside)) called rest),
        length-map m.names own,
      ),
    )
