-- Facts that hold of each number below a bound, or of each permutation, computed once and carried to a variable.
use Rattle.std.proofs.Common.{ℕ, zero, suc, ◌<◌, ◌≡◌, Bool, true, false, ◌&&◌, nat_lt, List, [], ◌∷◌, ap, ◌∙◌, arith, length, inl, inr}
use Rattle.std.specs.Prelude.{◌==◌}
use Rattle.std.specs.List.{list_all}
use Rattle.std.proofs.lemmas.Bool.{and_parts, cases_eq, ltb-true, eqb-true, false≢true}
use Rattle.syn_npn.specs.Images.{is_distinct, is_permutation}

abbrev pub every : ℕ → (ℕ → Bool) → Bool
every zero p = true
every (suc n) p = p n && every n p

pub every_at : (n : ℕ) (p : ℕ → Bool) → every n p ≡ true → (k : ℕ) → k < n → p k ≡ true
every_at zero p h k l = absurd (omega arith)
every_at (suc n) p h k l =
    let parts = and_parts (p n) (every n p) h in
    elim (cases_eq k n) [ inl e ↦ ap p e ∙ parts.0 | inr e ↦ every_at n p parts.1 k (omega arith) ]

abbrev pub at_permutation : (List ℕ → Bool) → List ℕ → Bool
at_permutation p perm = elim (is_permutation perm) as (λ _. Bool) [ true ↦ p perm | false ↦ true ]

abbrev pub every_permutation : (List ℕ → Bool) → Bool
every_permutation p = every 4 (λ a. every 4 (λ b. every 4 (λ c. every 4 (λ d. at_permutation p (a ∷ b ∷ c ∷ d ∷ [])))))

permutation_has : (p : List ℕ → Bool) (perm : List ℕ) (b : Bool) → b ≡ true → (elim b as (λ _. Bool) [ true ↦ p perm | false ↦ true ]) ≡ true → p perm ≡ true
permutation_has p perm true e h = h
permutation_has p perm false e h = absurd (false≢true e)

-- the four numbers of a permutation are below 4
bounded : (a b c d : ℕ) → is_permutation (a ∷ b ∷ c ∷ d ∷ []) ≡ true → (a < 4) × (b < 4) × (c < 4) × (d < 4)
bounded a b c d h =
    let four = a ∷ b ∷ c ∷ d ∷ [] in
    let outer = and_parts (length four == 4 && list_all (λ i. nat_lt i 4) four) (is_distinct four) h in
    let all = and_parts (length four == 4) (list_all (λ i. nat_lt i 4) four) outer.0 in
    let first = and_parts (nat_lt a 4) (list_all (λ i. nat_lt i 4) (b ∷ c ∷ d ∷ [])) all.1 in
    let second = and_parts (nat_lt b 4) (list_all (λ i. nat_lt i 4) (c ∷ d ∷ [])) first.1 in
    let third = and_parts (nat_lt c 4) (list_all (λ i. nat_lt i 4) (d ∷ [])) second.1 in
    let fourth = and_parts (nat_lt d 4) true third.1 in
    (ltb-true a 4 first.0, ltb-true b 4 second.0, ltb-true c 4 third.0, ltb-true d 4 fourth.0)

pub permutation_at : (p : List ℕ → Bool) → every_permutation p ≡ true → (perm : List ℕ) → is_permutation perm ≡ true → p perm ≡ true
permutation_at p h (a ∷ b ∷ c ∷ d ∷ []) e =
    let small = bounded a b c d e in
    let one = every_at 4 (λ a. every 4 (λ b. every 4 (λ c. every 4 (λ d. at_permutation p (a ∷ b ∷ c ∷ d ∷ []))))) h a small.0 in
    let two = every_at 4 (λ b. every 4 (λ c. every 4 (λ d. at_permutation p (a ∷ b ∷ c ∷ d ∷ [])))) one b small.1 in
    let three = every_at 4 (λ c. every 4 (λ d. at_permutation p (a ∷ b ∷ c ∷ d ∷ []))) two c small.2 in
    let four = every_at 4 (λ d. at_permutation p (a ∷ b ∷ c ∷ d ∷ [])) three d small.3 in
    permutation_has p (a ∷ b ∷ c ∷ d ∷ []) (is_permutation (a ∷ b ∷ c ∷ d ∷ [])) e four
permutation_at p h [] e = absurd (false≢true e)
permutation_at p h (a ∷ []) e = absurd (false≢true e)
permutation_at p h (a ∷ b ∷ []) e = absurd (false≢true e)
permutation_at p h (a ∷ b ∷ c ∷ []) e = absurd (false≢true e)
permutation_at p h (a ∷ b ∷ c ∷ d ∷ x ∷ xs) e =
    let more = a ∷ b ∷ c ∷ d ∷ x ∷ xs in
    let outer = and_parts (length more == 4 && list_all (λ i. nat_lt i 4) more) (is_distinct more) e in
    let size = eqb-true (length more) 4 (and_parts (length more == 4) (list_all (λ i. nat_lt i 4) more) outer.0).0 in
    absurd (omega (arith, size))
