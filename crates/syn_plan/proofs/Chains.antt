-- Lists of gates: one gate more, and the values after it.
use Rattle.std.proofs.Common.{◌≡◌, ℕ, ◌+◌, ◌<◌, Bool, true, false, ◌&&◌, ltb, List, [], ◌∷◌, ◌++◌, length, get_or, take, drop, refl, sym, ap, ap₂, ◌∙◌, subst, arith, length-append}
use Rattle.std.proofs.lemmas.Bool.{and_parts, and_from, lt-ltb}
use Rattle.std.proofs.lemmas.List.{map-append, take_more, drop_more}
use Rattle.syn_truth.specs.declared.Truth.{Truth}
use Rattle.syn_truth.specs.Truth.{value_of}
use Rattle.syn_plan.specs.Tables.{values_in}
use Rattle.syn_plan.specs.declared.PLit.{PLit}
use Rattle.syn_plan.specs.Gates.{index_of, in_order, literal_value, values_after}

pub in_order-push : (n : ℕ) (gates : List (PLit × PLit)) (a b : PLit) → in_order n gates ≡ true → index_of a < n + length gates → index_of b < n + length gates → in_order n (gates ++ (a, b) ∷ []) ≡ true
in_order-push n [] a b h k l = and_from _ _ (and_from _ _ (lt-ltb (index_of a) n (omega arith)) (lt-ltb (index_of b) n (omega arith))) refl
in_order-push n (gate ∷ gates) a b h k l =
    let parts : ((ltb (index_of gate.0) n && ltb (index_of gate.1) n) ≡ true) × (in_order (n + 1) gates ≡ true) = and_parts _ _ h in
    and_from _ _ parts.0 (in_order-push (n + 1) gates a b parts.1 (omega arith) (omega arith))

pub values_after-append : (values : List Bool) (gates more : List (PLit × PLit)) → values_after values (gates ++ more) ≡ values_after (values_after values gates) more
values_after-append values [] more = refl
values_after-append values (gate ∷ gates) more =
    values_after-append (values ++ (literal_value values gate.0 && literal_value values gate.1) ∷ []) gates more

pub length-values_after : (values : List Bool) (gates : List (PLit × PLit)) → length (values_after values gates) ≡ length values + length gates
length-values_after values [] = omega arith
length-values_after values (gate ∷ gates) =
    length-values_after (values ++ (literal_value values gate.0 && literal_value values gate.1) ∷ []) gates
    ∙ omega (arith, length-append values ((literal_value values gate.0 && literal_value values gate.1) ∷ []))

-- one table more
pub values_in-push : (tables : List Truth) (t : Truth) (xs : List Bool) → values_in (tables ++ t ∷ []) xs ≡ values_in tables xs ++ value_of t xs ∷ []
values_in-push tables t xs = map-append (λ t. value_of t xs) tables (t ∷ [])

pub leaf_step : (tables : List Truth) (t : Truth) (xs : List Bool) (i : ℕ) → values_in tables xs ≡ false ∷ take i xs → value_of t xs ≡ get_or xs i false → i < length xs → values_in (tables ++ t ∷ []) xs ≡ false ∷ take (i + 1) xs
leaf_step tables t xs i h e l =
    values_in-push tables t xs
    ∙ ap₂ (λ vs v. vs ++ v ∷ []) h e
    ∙ ap (λ vs. false ∷ vs) (sym (take_more xs i false l))

-- ---- the gates from one place on
module _ (gates : List (PLit × PLit)) (k : ℕ) (d : PLit × PLit) (within : k < length gates) where
  pub in_order-rest : (n m : ℕ) → n + 1 ≡ m → in_order n (drop k gates) ≡ true → in_order m (drop (k + 1) gates) ≡ true
  in_order-rest n m e h =
      let here : in_order n (get_or gates k d ∷ drop (k + 1) gates) ≡ true = sym (ap (in_order n) (drop_more gates k d within)) ∙ h in
      subst (λ (i : ℕ). in_order i (drop (k + 1) gates) ≡ true) e (and_parts _ (in_order (n + 1) (drop (k + 1) gates)) here).1

  pub values_after-rest : (tables : List Truth) (t : Truth) (xs all : List Bool) → value_of t xs ≡ (literal_value (values_in tables xs) (get_or gates k d).0 && literal_value (values_in tables xs) (get_or gates k d).1) → values_after (values_in tables xs) (drop k gates) ≡ all → values_after (values_in (tables ++ t ∷ []) xs) (drop (k + 1) gates) ≡ all
  values_after-rest tables t xs all e h =
      ap (λ values. values_after values (drop (k + 1) gates)) (values_in-push tables t xs ∙ ap (λ v. values_in tables xs ++ v ∷ []) e)
      ∙ sym (ap (values_after (values_in tables xs)) (drop_more gates k d within))
      ∙ h
