-- Small facts on lists that hold of each element, and on tables with names called otherwise.
use Rattle.std.proofs.Common.{◌≡◌, ℕ, Bool, true, false, List, [], ◌∷◌, ◌++◌, map, bytes_eq, refl, sym, ap, ◌∙◌, subst, inl, inr, Option, Some, None}
use Rattle.std.specs.List.{list_any, AllByRecursion}
use Rattle.std.proofs.lemmas.Bool.{or_cases, or_parts, or_from, both_ways, cases_Bool, cond-true, cond-false}
use Rattle.syn_netlist.specs.Words.{has_word}
use Rattle.syn_netlist.specs.Covers.{cover_value}
use Rattle.syn_netlist.proofs.Sets.{same_word}
use Rattle.syn_models.specs.Models.{Bind, actual_of, is_bound}
use Rattle.syn_models.specs.Laws.{CalledTableValue}

pub by_append : {A : Type 0} (P : A → Type 0) (xs ys : List A) → AllByRecursion P xs → AllByRecursion P ys → AllByRecursion P (xs ++ ys)
by_append P [] ys a b = b
by_append P (x ∷ xs) ys a b = (a.0, by_append P xs ys a.1 b)

pub by_left : {A : Type 0} (P : A → Type 0) (xs ys : List A) → AllByRecursion P (xs ++ ys) → AllByRecursion P xs
by_left P [] ys a = tt
by_left P (x ∷ xs) ys a = (a.0, by_left P xs ys a.1)

pub by_right : {A : Type 0} (P : A → Type 0) (xs ys : List A) → AllByRecursion P (xs ++ ys) → AllByRecursion P ys
by_right P [] ys a = a
by_right P (x ∷ xs) ys a = by_right P xs ys a.1

-- a test that holds of no word of a list doesn't hold of one in it
pub none_at : (test : List ℕ → Bool) (ws : List (List ℕ)) (w : List ℕ) → list_any test ws ≡ false → has_word ws w ≡ true → test w ≡ false
none_at test [] w a h = absurd (both_ways false refl h)
none_at test (x ∷ xs) w a h =
    let parts = or_parts (test x) (list_any test xs) a in
    elim (or_cases (bytes_eq x w) (has_word xs w) h) [
      | inl e ↦ subst (λ k. test k ≡ false) (same_word x w e) parts.0
      | inr t ↦ none_at test xs w parts.1 t
    ]

map_called : (v : List ℕ → Bool) (called : List ℕ → List ℕ) (ws : List (List ℕ)) → map v (map called ws) ≡ map (λ name. v (called name)) ws
map_called v called [] = refl
map_called v called (w ∷ ws) = ap (λ (l : List Bool). v (called w) ∷ l) (map_called v called ws)

pub called_table_value : CalledTableValue
called_table_value called table v = ap (cover_value table.rows table.on) (map_called v called table.inputs)

-- where a formal has no actual it isn't bound
pub none_bound : (binds : List Bind) (name : List ℕ) → actual_of binds name ≡ None → is_bound binds name ≡ false
none_bound [] name e = refl
none_bound (b ∷ bs) name e = elim (cases_Bool (bytes_eq b.formal name)) [
  | inl t ↦ absurd (let s : ◌≡◌ {A = Option (List ℕ)} (Some b.actual) None = sym (cond-true (bytes_eq b.formal name) (Some b.actual) (actual_of bs name) t) ∙ e in cc)
  | inr t ↦ or_from (bytes_eq b.formal name) (is_bound bs name) t (none_bound bs name (sym (cond-false (bytes_eq b.formal name) (Some b.actual) (actual_of bs name) t) ∙ e))
]
