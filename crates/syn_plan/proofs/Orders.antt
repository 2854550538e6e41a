-- Orders that name each variable once.
use Rattle.std.proofs.Common.{◌≡◌, ℕ, zero, suc, ◌-◌, ◌^◌, ◌<◌, ◌≤◌, Bool, true, ◌&&◌, eqb, ltb, List, [], ◌∷◌, length, take, drop, refl, ap, ◌∙◌, inl, inr, arith}
use Rattle.std.proofs.Math.Nat.{pow-le-pow_right}
use Rattle.std.proofs.lemmas.Bool.{and_parts, cases_eq, eqb-true}
use Rattle.std.specs.List.{list_any, list_all}
use Rattle.syn_plan.specs.Factoring.{names_each, names_once, falling, most_gates, Covers}

pub named : (n : ℕ) (order : List ℕ) → names_each n order ≡ true → (i : ℕ) → i < n → list_any (λ x. eqb x i) order ≡ true
named zero order h i l = absurd (omega arith)
named (suc n) order h i l =
    let parts : (list_any (λ x. eqb x n) order ≡ true) × (names_each n order ≡ true) = and_parts _ _ h in
    elim (cases_eq i n)
    [ inl e ↦ ap (λ k. list_any (λ x. eqb x k) order) e ∙ parts.0 | inr e ↦ named n order parts.1 i (omega arith) ]

pub order_parts : (n : ℕ) (order : List ℕ) → names_once n order ≡ true → (length order ≡ n) × (list_all (λ i. ltb i n) order ≡ true) × (names_each n order ≡ true)
order_parts n order h =
    let two : ((eqb (length order) n && list_all (λ i. ltb i n) order) ≡ true) × (names_each n order ≡ true) = and_parts _ _ h in
    let one : (eqb (length order) n ≡ true) × (list_all (λ i. ltb i n) order ≡ true) = and_parts _ _ two.0 in
    (eqb-true _ _ one.0, one.1, two.1)

pub order_covers : (n : ℕ) (order : List ℕ) (f : List Bool → Bool) → names_once n order ≡ true → Covers n order f
order_covers n order f h i l d = named n order (order_parts n order h).2 i l

pub few_gates : (n : ℕ) → n ≤ 8 → most_gates n ≤ 381
few_gates n h =
    let few : n - 1 ≤ 7 = omega arith in
    let low : 2 ^ (n - 1) ≤ 2 ^ 7 = pow-le-pow_right {n = 2} (omega arith) few in
    omega (arith, low)

-- ---- the order from the highest variable down
abbrev pub all_falling : List ℕ
all_falling = 7 ∷ 6 ∷ 5 ∷ 4 ∷ 3 ∷ 2 ∷ 1 ∷ 0 ∷ []

pub falling_is : (n : ℕ) → n ≤ 8 → (take (8 - (8 - n)) (drop (8 - n) all_falling) ≡ falling n) × (names_once n (falling n) ≡ true)
falling_is zero h = (refl, refl)
falling_is (suc zero) h = (refl, refl)
falling_is (suc (suc zero)) h = (refl, refl)
falling_is (suc (suc (suc zero))) h = (refl, refl)
falling_is (suc (suc (suc (suc zero)))) h = (refl, refl)
falling_is (suc (suc (suc (suc (suc zero))))) h = (refl, refl)
falling_is (suc (suc (suc (suc (suc (suc zero)))))) h = (refl, refl)
falling_is (suc (suc (suc (suc (suc (suc (suc zero))))))) h = (refl, refl)
falling_is (suc (suc (suc (suc (suc (suc (suc (suc zero)))))))) h = (refl, refl)
falling_is (suc (suc (suc (suc (suc (suc (suc (suc (suc n))))))))) h = absurd (omega arith)
