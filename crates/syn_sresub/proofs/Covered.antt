-- What refuted questions say of their literals.
use Rattle.std.proofs.Common.{◌≡◌, ℕ, ◌+◌, ◌-◌, ◌%◌, nat_eq, if◌then◌else◌, Bool, true, false, ◌&&◌, All, [], ◌∷◌, refl, sym, inl, inr}
use Rattle.std.proofs.lemmas.Bool.{cases_Bool}
use Rattle.std.proofs.lemmas.List.Elements.{All-nil, All-cons}
use Rattle.syn_rows.specs.declared.Lit.{Lit}
use Rattle.syn_rows.specs.Values.{lit_value}
use Rattle.syn_sat.proofs.Opposites.{is_true}

two : (v : ℕ → Bool) (x y : Lit) → lit_value v x ≡ true → lit_value v y ≡ true → All (λ l. lit_value v l ≡ true) (x ∷ y ∷ [])
two v x y a b = All-cons (λ (l : Lit). lit_value v l ≡ true) x (y ∷ []) a (All-cons (λ (l : Lit). lit_value v l ≡ true) y [] b (All-nil (λ (l : Lit). lit_value v l ≡ true)))

three : (v : ℕ → Bool) (x y z : Lit) → lit_value v x ≡ true → lit_value v y ≡ true → lit_value v z ≡ true → All (λ l. lit_value v l ≡ true) (x ∷ y ∷ z ∷ [])
three v x y z a b c = All-cons (λ (l : Lit). lit_value v l ≡ true) x (y ∷ z ∷ []) a (two v y z b c)

-- a literal that can't be true while another is false
pub implied : (v : ℕ → Bool) (m x not_x : Lit) → not_x.0 ≡ (if nat_eq (x.0 % 2) 0 then x.0 + 1 else x.0 - 1)
    → (All (λ l. lit_value v l ≡ true) (m ∷ not_x ∷ []) → ⊥) → lit_value v m ≡ true → lit_value v x ≡ true
implied v m x not_x d none t = elim (cases_Bool (lit_value v x)) [
  | inl a ↦ a
  | inr f ↦ absurd (none (two v m not_x t (is_true v x not_x d f)))
]

-- a literal that can't be false while two others are true
pub third : (v : ℕ → Bool) (m x y not_m : Lit) → not_m.0 ≡ (if nat_eq (m.0 % 2) 0 then m.0 + 1 else m.0 - 1)
    → (All (λ l. lit_value v l ≡ true) (not_m ∷ x ∷ y ∷ []) → ⊥) → lit_value v x ≡ true → lit_value v y ≡ true → lit_value v m ≡ true
third v m x y not_m d none a b = elim (cases_Bool (lit_value v m)) [
  | inl t ↦ t
  | inr f ↦ absurd (none (three v not_m x y (is_true v m not_m d f) a b))
]

-- an AND by its three implications
pub and_by_parts : (m x y : Bool) → (m ≡ true → x ≡ true) → (m ≡ true → y ≡ true) → (x ≡ true → y ≡ true → m ≡ true) → m ≡ (x && y)
and_by_parts true true true a b c = refl
and_by_parts true true false a b c = sym (b refl)
and_by_parts true false y a b c = sym (a refl)
and_by_parts false true true a b c = c refl refl
and_by_parts false true false a b c = refl
and_by_parts false false y a b c = refl
