-- What is printed number after number.
use Rattle.std.proofs.Common.{◌≡◌, ℕ, zero, suc, ◌+◌, ◌-◌, ◌*◌, ◌/◌, ◌%◌, ◌<◌, ◌≤◌, nat_lt, OnOk, Result, Ok, Err, List, [], ◌∷◌, ◌++◌, flat_map, sym, ap, ap₂, ◌∙◌, append_assoc, arith, le-ltb}
use Rattle.std.proofs.lemmas.Bool.{cond-false}
use Rattle.syn_aiger_files.specs.Literals.{literals_from}
use Rattle.syn_aiger_files.specs.Printed.{grouped, number_line, single}

literals_step : (k count : ℕ) → k < count → literals_from (1 + k) (count - k) ≡ 2 * (k + 1) ∷ literals_from (1 + (k + 1)) (count - (k + 1))
literals_step k count l =
    ap (literals_from (1 + k)) (let e : count - k ≡ suc (count - (k + 1)) = omega arith in e)
    ∙ ap₂ (λ (a b : ℕ). a ∷ literals_from b (count - (k + 1))) (let e : 2 * (1 + k) ≡ 2 * (k + 1) = omega arith in e) (let e : 1 + k + 1 ≡ 1 + (k + 1) = omega arith in e)

pub first_on : (out new target : List ℕ) (k count : ℕ) → k < count → new ≡ out ++ number_line (2 * (k + 1)) [] → out ++ flat_map single (literals_from (1 + k) (count - k)) ≡ target
    → new ++ flat_map single (literals_from (1 + (k + 1)) (count - (k + 1))) ≡ target
first_on out new target k count l e h =
    ap (λ (o : List ℕ). o ++ flat_map single (literals_from (1 + (k + 1)) (count - (k + 1)))) e
    ∙ append_assoc out (number_line (2 * (k + 1)) []) (flat_map single (literals_from (1 + (k + 1)) (count - (k + 1))))
    ∙ ap (λ (ls : List ℕ). out ++ flat_map single ls) (sym (literals_step k count l))
    ∙ h

groups_by : (groups n : ℕ) → 128 ≤ n → grouped (suc groups) n ≡ (128 + n % 128) ∷ grouped groups (n / 128)
groups_by groups n l = cond-false (nat_lt n 128) (n ∷ []) ((128 + n % 128) ∷ grouped groups (n / 128)) (le-ltb n 128 l)

groups_more : (groups n : ℕ) → 0 < groups → 128 ≤ n → grouped groups n ≡ (128 + n % 128) ∷ grouped (groups - 1) (n / 128)
groups_more zero n some l = absurd (omega arith)
groups_more (suc k) n some l = groups_by k n l ∙ ap (λ (g : ℕ). (128 + n % 128) ∷ grouped g (n / 128)) (let e : k ≡ suc k - 1 = omega arith in e)

pub groups_on : (out mid new : List ℕ) (groups n b : ℕ) → 0 < groups → 128 ≤ n → b ≡ 128 + n % 128 → mid ≡ out ++ b ∷ [] → new ≡ mid ++ grouped (groups - 1) (n / 128) → new ≡ out ++ grouped groups n
groups_on out mid new groups n b some l is e f =
    f ∙ ap (λ (m : List ℕ). m ++ grouped (groups - 1) (n / 128)) (e ∙ ap (λ (d : ℕ). out ++ d ∷ []) is)
    ∙ append_assoc out ((128 + n % 128) ∷ []) (grouped (groups - 1) (n / 128))
    ∙ ap (λ (g : List ℕ). out ++ g) (sym (groups_more groups n some l))

pub hands_ok : {T E : Type 0} (r : Result T E) (P Q : Type 0) → (P → Q) → OnOk r P → OnOk r Q
hands_ok (Ok v) P Q g h = g h
hands_ok (Err e) P Q g h = tt
