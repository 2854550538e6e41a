-- Bytes spell a file within the limits, or have a first fault; and they have one at most.
use Rattle.std.proofs.Common.{◌≡◌, ℕ, ◌<◌, ◌≤◌, ◌+◌, ◌*◌, ◌/◌, Bool, true, false, List, [], ◌∷◌, ◌++◌, length, map, ◌⊎◌, not, Option, Some, None, Result, Ok, Err, refl, sym, ap, ◌∙◌, subst, inl, inr, arith, nat_eq, eqb-true}
use Rattle.std.proofs.lemmas.Bool.{and_parts, cases_lt, or_cases, both_ways}
use Rattle.syn_netlist.specs.Faults.{AnswersCircle, IsAnsweredCircle, ReachesCircle}
use Rattle.syn_netlist.specs.Lists.{output_of}
use Rattle.syn_lists.specs.Numbers.{distinct_numbers, has_number}
use Rattle.syn_netlist.specs.Words.{distinct}
use Rattle.syn_models.proofs.Circles.{circle_or_none, one_circle}
use Rattle.syn_reader.specs.Limits.{most_sources}
use Rattle.syn_aiger_files.specs.declared.fault.AigFault.{AigFault}
use Rattle.syn_aiger_files.specs.declared.fault.AigFault.TheVariants.{Header, Line, Justice, Pair, Symbol, Undefined, Cycle, TooManySources, TooManyGates, NoMemory}
use Rattle.syn_aiger_files.specs.declared.files.Aig.{Aig}
use Rattle.syn_aiger_files.specs.Files.{and_literal, latch_literal, variable_of}
use Rattle.syn_aiger_files.specs.Spelling.{most_variables, spelled}
use Rattle.syn_aiger_files.proofs.Spelled.{NewOnes, may_parts, spelled_fault, spelled_sound}
use Rattle.syn_aiger.specs.Faults.{IsAigFault, IsFirstFault, Spells, Within, most_ands}
use Rattle.syn_aiger.specs.Laws.{EitherOr, OneFault}
use Rattle.syn_aiger.specs.Values.{NoCircle, and_tables, and_variable, defined_variables, first_undefined, source_literals, source_variables, variable_word}
use Rattle.syn_aiger.proofs.Circling.{AllSmall, circle_variables, outputs_are, same_variables, words_distinct}
use Rattle.syn_aiger.proofs.Defined.{defined_are, spelled_defines_once}
use Rattle.syn_aiger.proofs.Sound.{has_right}
use Rattle.syn_aiger.proofs.Verdicts.{answered_reaches}

-- variables are small

new_small : (most : ℕ) (ds ls : List ℕ) → NewOnes most ds ls → (v : ℕ) → has_number (map variable_of ls) v ≡ true → v ≤ most / 2
new_small most ds [] h v t = absurd (both_ways false refl t)
new_small most ds (l ∷ ls) h v t = elim (or_cases (nat_eq (variable_of l) v) (has_number (map variable_of ls) v) t) [
  | inl e ↦ let le = (may_parts most ds l h.0).most_at in let q : l / 2 ≡ v = eqb-true (l / 2) v e in omega arith
  | inr r ↦ new_small most (l ∷ ds) ls h.1 v r
]

pub defined_small : (properties : Bool) (bytes : List ℕ) (g : Aig) → spelled properties bytes ≡ Ok g → (v : ℕ) → has_number (defined_variables g) v ≡ true → v ≤ g.variables
defined_small properties bytes g e v t =
    let s = spelled_sound properties bytes g e in
    let ls : List ℕ = g.inputs ++ (map latch_literal g.latches ++ map and_literal g.ands) in
    elim (or_cases (nat_eq 0 v) (has_number (map variable_of ls) v) (ap (λ (ns : List ℕ). has_number ns v) (sym (defined_are g)) ∙ t)) [
      | inl z ↦ let q : 0 ≡ v = eqb-true 0 v z in omega arith
      | inr r ↦ let le = new_small (2 * g.variables + 1) [] ls s.1.new v r in omega arith
    ]

pub and_small : (properties : Bool) (bytes : List ℕ) (g : Aig) → spelled properties bytes ≡ Ok g → AllSmall (map and_variable g.ands)
and_small properties bytes g e v t =
    let le = defined_small properties bytes g e v (has_right (0 ∷ source_variables g) (map and_variable g.ands) v t) in
    let few : g.variables ≤ most_variables = (spelled_sound properties bytes g e).0 in
    omega arith

distinct_right_numbers : (xs ys : List ℕ) → distinct_numbers (xs ++ ys) ≡ true → distinct_numbers ys ≡ true
distinct_right_numbers [] ys d = d
distinct_right_numbers (x ∷ xs) ys d = distinct_right_numbers xs ys (and_parts (not (has_number (xs ++ ys) x)) (distinct_numbers (xs ++ ys)) d).1

-- the ANDs' tables define no name twice
pub tables_distinct : (properties : Bool) (bytes : List ℕ) (g : Aig) → spelled properties bytes ≡ Ok g → distinct (map output_of (and_tables g)) ≡ true
tables_distinct properties bytes g e =
    ap distinct (outputs_are g.ands)
    ∙ words_distinct (map and_variable g.ands) (and_small properties bytes g e) (distinct_right_numbers (0 ∷ source_variables g) (map and_variable g.ands) (spelled_defines_once properties bytes g e))

-- a fault of the text
pub text_fault : (properties : Bool) (bytes : List ℕ) (f : AigFault) → spelled properties bytes ≡ Err f → IsFirstFault properties bytes f
text_fault properties bytes Header e = e
text_fault properties bytes Justice e = e
text_fault properties bytes (Line at) e = e
text_fault properties bytes (Pair at) e = e
text_fault properties bytes (Symbol at) e = e
text_fault properties bytes (Undefined v) e = absurd (spelled_fault properties bytes (Undefined v) e)
text_fault properties bytes (Cycle vs) e = absurd (spelled_fault properties bytes (Cycle vs) e)
text_fault properties bytes (TooManySources n) e = absurd (spelled_fault properties bytes (TooManySources n) e)
text_fault properties bytes (TooManyGates n) e = absurd (spelled_fault properties bytes (TooManyGates n) e)
text_fault properties bytes NoMemory e = absurd (spelled_fault properties bytes NoMemory e)

abbrev Verdict : Bool → List ℕ → Type 0
Verdict properties bytes = ((g : Aig) × Spells properties bytes g × Within g) ⊎ ((fault : AigFault) × IsFirstFault properties bytes fault)

pub either_or : EitherOr
either_or properties bytes = go (spelled properties bytes) refl
  where
    limits : (g : Aig) → spelled properties bytes ≡ Ok g → first_undefined g ≡ None → NoCircle g
        → (most_sources < length (source_literals g)) ⊎ (length (source_literals g) ≤ most_sources) → (most_ands < length g.ands) ⊎ (length g.ands ≤ most_ands) → Verdict properties bytes
    limits g e u c (inl a) b = inr (TooManySources (length (source_literals g)), (g, e, (u, c, refl, a)))
    limits g e u c (inr a) (inl b) = inr (TooManyGates (length g.ands), (g, e, (u, c, a, refl, b)))
    limits g e u c (inr a) (inr b) = inl (g, record { says = e; defined = u; acyclic = c }, record { sources = a; gates = b })

    circle : (g : Aig) → spelled properties bytes ≡ Ok g → first_undefined g ≡ None
        → (((w : List ℕ) → ReachesCircle (and_tables g) w → ⊥) ⊎ ((names : List (List ℕ)) × (first : List ℕ) × (before : List (List ℕ)) × (set : List ℕ → Bool) × IsAnsweredCircle (and_tables g) first before names set)) → Verdict properties bytes
    circle g e u (inl c) = limits g e u c (cases_lt most_sources (length (source_literals g))) (cases_lt most_ands (length g.ands))
    circle g e u (inr c) =
        let a : AnswersCircle (and_tables g) c.0 = (c.1, c.2, c.3, c.4) in
        let v = circle_variables g c.0 a in
        inr (Cycle v.0, (g, e, (u, v.1, subst (AnswersCircle (and_tables g)) (sym v.2) a)))

    defined : (g : Aig) → spelled properties bytes ≡ Ok g → (o : Option ℕ) → first_undefined g ≡ o → Verdict properties bytes
    defined g e (Some v) u = inr (Undefined v, (g, e, u))
    defined g e None u = circle g e u (circle_or_none (and_tables g) (tables_distinct properties bytes g e))

    go : (r : Result Aig AigFault) → spelled properties bytes ≡ r → Verdict properties bytes
    go (Err f) e = inr (f, text_fault properties bytes f e)
    go (Ok g) e = defined g e (first_undefined g) refl

-- a first fault is one of the text, or one of what it says
abbrev Kind : Bool → List ℕ → AigFault → Type 0
Kind properties bytes f = (spelled properties bytes ≡ Err f) ⊎ ((g : Aig) × (spelled properties bytes ≡ Ok g) × IsAigFault g f)

kind_of : (properties : Bool) (bytes : List ℕ) (f : AigFault) → IsFirstFault properties bytes f → Kind properties bytes f
kind_of properties bytes Header h = inl h
kind_of properties bytes Justice h = inl h
kind_of properties bytes (Line at) h = inl h
kind_of properties bytes (Pair at) h = inl h
kind_of properties bytes (Symbol at) h = inl h
kind_of properties bytes (Undefined v) h = inr h
kind_of properties bytes (Cycle vs) h = inr h
kind_of properties bytes (TooManySources n) h = inr h
kind_of properties bytes (TooManyGates n) h = inr h
kind_of properties bytes NoMemory h = absurd h

module _ (properties : Bool) (bytes : List ℕ) (g : Aig) (e : spelled properties bytes ≡ Ok g) where
  not_undefined : (v : ℕ) → first_undefined g ≡ Some v → first_undefined g ≡ None → ⊥
  not_undefined v h k = let q : Path (Option ℕ) (Some v) None = sym h ∙ k in cc

  no_circle : (vs : List ℕ) → AnswersCircle (and_tables g) (map variable_word vs) → NoCircle g → ⊥
  no_circle vs a none = let r = answered_reaches (and_tables g) (map variable_word vs) a in none r.0 r.1

  same_circle : (vs us : List ℕ) → IsAigFault g (Cycle vs) → IsAigFault g (Cycle us) → vs ≡ us
  same_circle vs us (u, h, (f, b, s, x)) (t, k, (d, c, r, y)) =
      same_variables (map and_variable g.ands) vs us (and_small properties bytes g e) h k (one_circle (and_tables g) f d b c (map variable_word vs) (map variable_word us) s r x y)

  one_aig_fault : (f h : AigFault) → IsAigFault g f → IsAigFault g h → f ≡ h
  one_aig_fault (Undefined v) (Undefined w) x y = let q : Path (Option ℕ) (Some v) (Some w) = sym x ∙ y in ap Undefined (let r : v ≡ w = cc in r)
  one_aig_fault (Undefined v) (Cycle us) x y = absurd (not_undefined v x y.0)
  one_aig_fault (Undefined v) (TooManySources n) x y = absurd (not_undefined v x y.0)
  one_aig_fault (Undefined v) (TooManyGates n) x y = absurd (not_undefined v x y.0)
  one_aig_fault (Undefined v) other x y = absurd y
  one_aig_fault (Cycle vs) (Undefined w) x y = absurd (not_undefined w y x.0)
  one_aig_fault (Cycle vs) (Cycle us) x y = ap Cycle (same_circle vs us x y)
  one_aig_fault (Cycle vs) (TooManySources n) x y = absurd (no_circle vs x.2 y.1)
  one_aig_fault (Cycle vs) (TooManyGates n) x y = absurd (no_circle vs x.2 y.1)
  one_aig_fault (Cycle vs) other x y = absurd y
  one_aig_fault (TooManySources n) (Undefined w) x y = absurd (not_undefined w y x.0)
  one_aig_fault (TooManySources n) (Cycle us) x y = absurd (no_circle us y.2 x.1)
  one_aig_fault (TooManySources n) (TooManySources k) x y = ap TooManySources (x.2 ∙ sym y.2)
  one_aig_fault (TooManySources n) (TooManyGates k) x y = absurd (let a = x.2 in let b = x.3 in let c = y.2 in omega arith)
  one_aig_fault (TooManySources n) other x y = absurd y
  one_aig_fault (TooManyGates n) (Undefined w) x y = absurd (not_undefined w y x.0)
  one_aig_fault (TooManyGates n) (Cycle us) x y = absurd (no_circle us y.2 x.1)
  one_aig_fault (TooManyGates n) (TooManySources k) x y = absurd (let a = y.2 in let b = y.3 in let c = x.2 in omega arith)
  one_aig_fault (TooManyGates n) (TooManyGates k) x y = ap TooManyGates (x.3 ∙ sym y.3)
  one_aig_fault (TooManyGates n) other x y = absurd y
  one_aig_fault other h x y = absurd x

pub one_fault : OneFault
one_fault properties bytes f h x y = both (kind_of properties bytes f x) (kind_of properties bytes h y)
  where
    both : Kind properties bytes f → Kind properties bytes h → f ≡ h
    both (inl a) (inl b) = let q : Path (Result Aig AigFault) (Err f) (Err h) = sym a ∙ b in cc
    both (inl a) (inr b) = absurd (let q : Path (Result Aig AigFault) (Err f) (Ok b.0) = sym a ∙ b.1 in cc)
    both (inr a) (inl b) = absurd (let q : Path (Result Aig AigFault) (Ok a.0) (Err h) = sym a.1 ∙ b in cc)
    both (inr a) (inr b) =
        let q : Path (Result Aig AigFault) (Ok a.0) (Ok b.0) = sym a.1 ∙ b.1 in
        let same : a.0 ≡ b.0 = cc in
        one_aig_fault properties bytes b.0 b.1 f h (subst (λ (g : Aig). IsAigFault g f) same a.2) b.2
