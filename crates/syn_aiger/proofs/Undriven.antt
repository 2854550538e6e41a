-- What a file reads and doesn't define.
use Rattle.std.specs.List.{list_all}
use Rattle.std.proofs.Common.{◌≡◌, ℕ, ◌&&◌, Bool, true, List, [], ◌∷◌, ◌++◌, map, flat_map, find, Option, Some, None, refl, sym, ap, ◌∙◌, inl, inr}
use Rattle.std.proofs.lemmas.Bool.{and_from, and_parts, cases_Bool, cond-true, cond-false, not-false}
use Rattle.std.proofs.lemmas.List.{map-append}
use Rattle.std.proofs.lemmas.List.Folds.{list_all-append}
use Rattle.syn_aiger_files.specs.declared.files.Aig.{Aig}
use Rattle.syn_aiger_files.specs.declared.files.AigAnd.{AigAnd}
use Rattle.syn_aiger_files.specs.Files.{next_of, variable_of}
use Rattle.syn_aiger.specs.Placing.{ReadsDefined, has_sides, is_defined, is_undefined}
use Rattle.syn_aiger.specs.Values.{first_undefined, right_sides}

find_left : (p : ℕ → Bool) (xs ys : List ℕ) (v : ℕ) → find p xs ≡ Some v → find p (xs ++ ys) ≡ Some v
find_left p [] ys v e = absurd (cc)
find_left p (x ∷ xs) ys v e = elim (cases_Bool (p x)) [
  | inl t ↦ cond-true (p x) (Some x) (find p (xs ++ ys)) t ∙ sym (cond-true (p x) (Some x) (find p xs) t) ∙ e
  | inr f ↦ cond-false (p x) (Some x) (find p (xs ++ ys)) f ∙ find_left p xs ys v (sym (cond-false (p x) (Some x) (find p xs) f) ∙ e)
]

find_right : (p : ℕ → Bool) (xs ys : List ℕ) → find p xs ≡ None → find p (xs ++ ys) ≡ find p ys
find_right p [] ys e = refl
find_right p (x ∷ xs) ys e = elim (cases_Bool (p x)) [
  | inl t ↦ absurd (let q : Path (Option ℕ) (Some x) None = sym (cond-true (p x) (Some x) (find p xs) t) ∙ e in cc)
  | inr f ↦ cond-false (p x) (Some x) (find p (xs ++ ys)) f ∙ find_right p xs ys (sym (cond-false (p x) (Some x) (find p xs) f) ∙ e)
]

module _ (g : Aig) where
  abbrev nexts : List ℕ
  nexts = map variable_of (map next_of g.latches)

  abbrev outs : List ℕ
  outs = map variable_of g.outputs

  abbrev sides : List ℕ
  sides = map variable_of (flat_map right_sides g.ands)

  is_first : first_undefined g ≡ find (is_undefined g) (nexts ++ (outs ++ sides))
  is_first = ap (find (is_undefined g)) (map-append variable_of (map next_of g.latches) (g.outputs ++ flat_map right_sides g.ands) ∙ ap (λ (l : List ℕ). nexts ++ l) (map-append variable_of g.outputs (flat_map right_sides g.ands)))

  pub next_first : (v : ℕ) → Path (Option ℕ) (Some v) (find (is_undefined g) nexts) → Path (Option ℕ) (Some v) (first_undefined g)
  next_first v e = sym (is_first ∙ find_left (is_undefined g) nexts (outs ++ sides) v (sym e))

  pub output_first : (v : ℕ) → Path (Option ℕ) None (find (is_undefined g) nexts) → Path (Option ℕ) (Some v) (find (is_undefined g) outs) → Path (Option ℕ) (Some v) (first_undefined g)
  output_first v n e = sym (is_first ∙ find_right (is_undefined g) nexts (outs ++ sides) (sym n) ∙ find_left (is_undefined g) outs sides v (sym e))

  pub side_first : (o : Option ℕ) → Path (Option ℕ) None (find (is_undefined g) nexts) → Path (Option ℕ) None (find (is_undefined g) outs) → o ≡ find (is_undefined g) sides → o ≡ first_undefined g
  side_first o n m e = e ∙ sym (is_first ∙ find_right (is_undefined g) nexts (outs ++ sides) (sym n) ∙ find_right (is_undefined g) outs sides (sym m))

  none_undefined : (ls : List ℕ) → find (is_undefined g) (map variable_of ls) ≡ None → list_all (is_defined g) ls ≡ true
  none_undefined [] e = refl
  none_undefined (l ∷ ls) e = elim (cases_Bool (is_undefined g (variable_of l))) [
    | inl t ↦ absurd (let q : Path (Option ℕ) (Some (variable_of l)) None = sym (cond-true (is_undefined g (variable_of l)) (Some (variable_of l)) (find (is_undefined g) (map variable_of ls)) t) ∙ e in cc)
    | inr f ↦ and_from (is_defined g l) (list_all (is_defined g) ls) (not-false (is_defined g l) f) (none_undefined ls (sym (cond-false (is_undefined g (variable_of l)) (Some (variable_of l)) (find (is_undefined g) (map variable_of ls)) f) ∙ e))
  ]

  both_sides : (ands : List AigAnd) → list_all (is_defined g) (flat_map right_sides ands) ≡ true → list_all (has_sides g) ands ≡ true
  both_sides [] h = refl
  both_sides (a ∷ ands) h =
      let p = and_parts (is_defined g a.first) (is_defined g a.second && list_all (is_defined g) (flat_map right_sides ands)) h in
      let q = and_parts (is_defined g a.second) (list_all (is_defined g) (flat_map right_sides ands)) p.1 in
      and_from (has_sides g a) (list_all (has_sides g) ands) (and_from (is_defined g a.first) (is_defined g a.second) p.0 q.0) (both_sides ands q.1)

  -- Where nothing is undefined, all that is read is defined.
  pub reads_defined : first_undefined g ≡ None → ReadsDefined g
  reads_defined e =
      let all = none_undefined (map next_of g.latches ++ (g.outputs ++ flat_map right_sides g.ands)) e in
      let p = and_parts (list_all (is_defined g) (map next_of g.latches)) (list_all (is_defined g) (g.outputs ++ flat_map right_sides g.ands)) (sym (list_all-append (is_defined g) (map next_of g.latches) (g.outputs ++ flat_map right_sides g.ands)) ∙ all) in
      let q = and_parts (list_all (is_defined g) g.outputs) (list_all (is_defined g) (flat_map right_sides g.ands)) (sym (list_all-append (is_defined g) g.outputs (flat_map right_sides g.ands)) ∙ p.1) in
      record { next = p.0; outputs = q.0; sides = both_sides g.ands q.1 }
