-- The parts of the variables that a file defines, and how many there are.
use Rattle.std.proofs.Common.{◌≡◌, ℕ, suc, ◌+◌, ◌-◌, ◌*◌, ◌^◌, ◌<◌, ◌≤◌, not, nat_eq, is_some, true, false, List, [], ◌∷◌, ◌++◌, length, map, drop, get_or, Option, Some, None, refl, sym, ap, ap₂, ◌∙◌, subst, append_assoc, arith, length-append}
use Rattle.std.proofs.lemmas.Bool.{and_from, and_parts, or_from, or_parts, both_ways, not-true, not_from_false}
use Rattle.std.proofs.lemmas.List.{drop_more, length-map, map-append}
use Rattle.syn_rows.specs.declared.Lit.{Lit}
use Rattle.syn_rows.specs.declared.Row.{Row}
use Rattle.syn_rows.specs.declared.Row.TheVariants.{And}
use Rattle.syn_lists.specs.Numbers.{distinct_numbers, has_number}
use Rattle.syn_aiger_files.specs.declared.files.Aig.{Aig}
use Rattle.syn_aiger_files.specs.declared.files.AigAnd.{AigAnd}
use Rattle.syn_aiger_files.specs.declared.files.AigLatch.{AigLatch}
use Rattle.syn_aiger_files.specs.Files.{latch_literal, variable_of}
use Rattle.syn_aiger_files.specs.Literals.{literals_from}
use Rattle.syn_lists.specs.Numbers.{numbers_from}
use Rattle.syn_aiger.specs.Placing.{HasPlaces, IsSound, and_row, is_defined, lit_in, place_in}
use Rattle.syn_aiger.specs.Values.{and_variable, defined_variables, source_literals}
use Rattle.syn_aiger.specs.declared.places.Places.{Places}
use Rattle.syn_aiger.proofs.Placed.{place_none, place_some}
use Rattle.syn_aiger.proofs.Rowed.{many_defined}

pub is_placed : (ns : List ℕ) (v : ℕ) → is_some (place_in ns v) ≡ has_number ns v
is_placed ns v = go (place_in ns v) refl
  where
    go : (o : Option ℕ) → place_in ns v ≡ o → is_some (place_in ns v) ≡ has_number ns v
    go None e = ap is_some e ∙ sym (place_none ns v e)
    go (Some p) e = ap is_some e ∙ sym (place_some ns v p e).has

lacks_front : (xs ys : List ℕ) (x : ℕ) → has_number (xs ++ ys) x ≡ false → has_number xs x ≡ false
lacks_front [] ys x h = refl
lacks_front (y ∷ xs) ys x h = let p = or_parts (nat_eq y x) (has_number (xs ++ ys) x) h in or_from (nat_eq y x) (has_number xs x) p.0 (lacks_front xs ys x p.1)

pub distinct_front : (xs ys : List ℕ) → distinct_numbers (xs ++ ys) ≡ true → distinct_numbers xs ≡ true
distinct_front [] ys d = refl
distinct_front (x ∷ xs) ys d =
    let p = and_parts (not (has_number (xs ++ ys) x)) (distinct_numbers (xs ++ ys)) d in
    and_from (not (has_number xs x)) (distinct_numbers xs) (not_from_false (has_number xs x) (lacks_front xs ys x (not-true (has_number (xs ++ ys) x) p.0))) (distinct_front xs ys p.1)

module _ (g : Aig) where
  pub defined_split : defined_variables g ≡ ((0 ∷ map variable_of g.inputs) ++ map variable_of (map latch_literal g.latches)) ++ map and_variable g.ands
  defined_split = ap (λ (l : List ℕ). 0 ∷ (l ++ map and_variable g.ands)) (map-append variable_of g.inputs (map latch_literal g.latches))

  pub many_sources_are : length (source_literals g) ≡ length g.inputs + length g.latches
  many_sources_are = length-append g.inputs (map latch_literal g.latches) ∙ ap (λ (n : ℕ). length g.inputs + n) (length-map g.latches latch_literal)

  module _ (sound : IsSound g) where
    pub all_once : distinct_numbers (((0 ∷ map variable_of g.inputs) ++ map variable_of (map latch_literal g.latches)) ++ map and_variable g.ands) ≡ true
    all_once = ap distinct_numbers (sym defined_split) ∙ sound.once

    pub sources_once : distinct_numbers ((0 ∷ map variable_of g.inputs) ++ map variable_of (map latch_literal g.latches)) ≡ true
    sources_once = distinct_front ((0 ∷ map variable_of g.inputs) ++ map variable_of (map latch_literal g.latches)) (map and_variable g.ands) all_once

    pub inputs_once : distinct_numbers (0 ∷ map variable_of g.inputs) ≡ true
    inputs_once = distinct_front (0 ∷ map variable_of g.inputs) (map variable_of (map latch_literal g.latches)) sources_once

    pub few_parts : 1 + length g.inputs + length g.latches + length g.ands ≤ 2 ^ 28
    few_parts = omega (arith, many_defined g, many_sources_are, sound.few)

    -- part by part
    pub placed_all : (p q r : Places) (ls : List AigLatch) (es : List AigAnd) → ls ≡ g.latches → es ≡ g.ands → HasPlaces p (0 ∷ map variable_of g.inputs)
        → ((known : List ℕ) → HasPlaces p known → distinct_numbers (known ++ map variable_of (map latch_literal ls)) ≡ true → HasPlaces q (known ++ map variable_of (map latch_literal ls)))
        → ((known : List ℕ) → HasPlaces q known → distinct_numbers (known ++ map and_variable es) ≡ true → HasPlaces r (known ++ map and_variable es)) → HasPlaces r (defined_variables g)
    placed_all p q r ls es e f h k m =
        let front : List ℕ = 0 ∷ map variable_of g.inputs in
        let two : HasPlaces q (front ++ map variable_of (map latch_literal g.latches)) =
        subst (λ (xs : List AigLatch). HasPlaces q (front ++ map variable_of (map latch_literal xs))) e (k front h (ap (λ (xs : List AigLatch). distinct_numbers (front ++ map variable_of (map latch_literal xs))) e ∙ sources_once)) in
        let both : List ℕ = front ++ map variable_of (map latch_literal g.latches) in
        subst (HasPlaces r) (sym defined_split)
        (subst (λ (xs : List AigAnd). HasPlaces r (both ++ map and_variable xs)) f (m both two (ap (λ (xs : List AigAnd). distinct_numbers (both ++ map and_variable xs)) f ∙ all_once)))

  -- the literal of a place
  pub place_small : IsSound g → (l p : ℕ) → Path (Option ℕ) (Some p) (place_in (defined_variables g) (variable_of l)) → p < 2 ^ 28
  place_small sound l p e = let w = (place_some (defined_variables g) (variable_of l) p (sym e)).within in omega (arith, sound.few)

  pub undefined_here : (l : ℕ) → is_defined g l ≡ true → Path (Option ℕ) None (place_in (defined_variables g) (variable_of l)) → ⊥
  undefined_here l d e = both_ways (is_defined g l) (place_none (defined_variables g) (variable_of l) (sym e)) d

-- numbers, literals and rows, one after the other

pub numbers_on : (out new target : List ℕ) (k count : ℕ) → k < count → new ≡ out ++ k ∷ [] → out ++ numbers_from k (count - k) ≡ target → new ++ numbers_from (k + 1) (count - (k + 1)) ≡ target
numbers_on out new target k count l e h =
    ap (λ (ns : List ℕ). ns ++ numbers_from (k + 1) (count - (k + 1))) e ∙ append_assoc out (k ∷ []) (numbers_from (k + 1) (count - (k + 1)))
    ∙ ap (λ (n : ℕ). out ++ numbers_from k n) (let q : suc (count - (k + 1)) ≡ count - k = omega arith in q) ∙ h

pub literals_on : (out new target : List ℕ) (k count : ℕ) → k < count → new ≡ out ++ 2 * (k + 1) ∷ [] → out ++ literals_from (1 + k) (count - k) ≡ target → new ++ literals_from (1 + (k + 1)) (count - (k + 1)) ≡ target
literals_on out new target k count l e h =
    ap (λ (ns : List ℕ). ns ++ literals_from (1 + (k + 1)) (count - (k + 1))) e ∙ append_assoc out (2 * (k + 1) ∷ []) (literals_from (1 + (k + 1)) (count - (k + 1)))
    ∙ ap₂ (λ (x y : ℕ). out ++ 2 * x ∷ literals_from y (count - (k + 1))) (let p : k + 1 ≡ 1 + k = omega arith in p) (let r : 1 + (k + 1) ≡ 1 + k + 1 = omega arith in r)
    ∙ ap (λ (n : ℕ). out ++ literals_from (1 + k) n) (let q : suc (count - (k + 1)) ≡ count - k = omega arith in q) ∙ h

pub rows_on : (g : Aig) (es : List AigAnd) (k : ℕ) (d here : AigAnd) (out new total : List Row) (x y : Lit) → k < length es → here ≡ get_or es k d → x ≡ lit_in g here.second → y ≡ lit_in g here.first → new ≡ out ++ And x y ∷ []
    → out ++ map (and_row g) (drop k es) ≡ total → new ++ map (and_row g) (drop (k + 1) es) ≡ total
rows_on g es k d here out new total x y l at second first e h =
    ap (λ (rs : List Row). rs ++ map (and_row g) (drop (k + 1) es)) (e ∙ ap₂ (λ (a b : Lit). out ++ And a b ∷ []) second first)
    ∙ append_assoc out (and_row g here ∷ []) (map (and_row g) (drop (k + 1) es))
    ∙ ap (λ (xs : List AigAnd). out ++ map (and_row g) xs) (ap (λ (a : AigAnd). a ∷ drop (k + 1) es) at ∙ sym (drop_more es k d l)) ∙ h

pub same_at : {X : Type 0} (xs ys : List X) (i : ℕ) (d : X) → xs ≡ ys → get_or xs i d ≡ get_or ys i d
same_at xs ys i d e = ap (λ (zs : List _). get_or zs i d) e
