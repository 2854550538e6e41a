-- A test of all elements of lists that change.
use Rattle.std.proofs.Common.{◌≡◌, ◌≢◌, ℕ, zero, suc, ◌<◌, ◌&&◌, Bool, true, false, All, List, [], ◌∷◌, ◌++◌, length, get_or, set, refl, sym, ap, ap₂, ◌∙◌, arith}
use Rattle.std.specs.List.{list_all}
use Rattle.std.proofs.lemmas.List.{get_or-set_other, length-set, set-get_or}
use Rattle.std.proofs.lemmas.List.Elements.{All-head, All-tail}
use Rattle.std.proofs.lemmas.List.Folds.{list_all-append}
use Rattle.syn_rows.specs.declared.Lit.{Lit}

-- the test of all elements but the one at an index
abbrev all_but : (Lit → Bool) → List Lit → ℕ → Bool
all_but p [] i = true
all_but p (x ∷ xs) zero = list_all p xs
all_but p (x ∷ xs) (suc i) = p x && all_but p xs i

and_swap : (a b c : Bool) → (a && (b && c)) ≡ (b && (a && c))
and_swap true b c = refl
and_swap false true c = refl
and_swap false false c = refl

and_regroup : (a b c : Bool) → ((a && b) && c) ≡ (b && (a && c))
and_regroup true b c = refl
and_regroup false true c = refl
and_regroup false false c = refl

all_set : (p : Lit → Bool) (xs : List Lit) (i : ℕ) (y : Lit) → i < length xs → list_all p (set xs i y) ≡ (p y && all_but p xs i)
all_set p [] i y lt = absurd (omega arith)
all_set p (x ∷ xs) zero y lt = refl
all_set p (x ∷ xs) (suc i) y lt = ap (λ (b : Bool). p x && b) (all_set p xs i y (omega arith)) ∙ and_swap (p x) (p y) (all_but p xs i)

all_at : (p : Lit → Bool) (xs : List Lit) (i : ℕ) (d : Lit) → i < length xs → list_all p xs ≡ (p (get_or xs i d) && all_but p xs i)
all_at p xs i d lt = sym (ap (list_all p) (set-get_or xs i d)) ∙ all_set p xs i (get_or xs i d) lt

-- the last element goes to another list
last_goes : (w l f : Bool) → ((w && (l && true)) && f) ≡ (w && (f && (l && true)))
last_goes true true true = refl
last_goes true true false = refl
last_goes true false true = refl
last_goes true false false = refl
last_goes false l f = refl

pub last_moved : (p : Lit → Bool) (xs ys : List Lit) (x : Lit) → (list_all p xs && list_all p (ys ++ x ∷ [])) ≡ (list_all p (xs ++ x ∷ []) && list_all p ys)
last_moved p xs ys x =
    ap (λ (r : Bool). list_all p xs && r) (list_all-append p ys (x ∷ []))
    ∙ sym (ap (λ (r : Bool). r && list_all p ys) (list_all-append p xs (x ∷ [])) ∙ last_goes (list_all p xs) (p x) (list_all p ys))

-- the last element becomes two
two_last : (w a b : Bool) → ((w && (a && true)) && (b && true)) ≡ (w && ((a && b) && true))
two_last true true true = refl
two_last true true false = refl
two_last true false b = refl
two_last false a b = refl

pub last_parted : (p : Lit → Bool) (xs : List Lit) (x a b : Lit) → p x ≡ (p a && p b) → list_all p ((xs ++ a ∷ []) ++ b ∷ []) ≡ list_all p (xs ++ x ∷ [])
last_parted p xs x a b is =
    list_all-append p (xs ++ a ∷ []) (b ∷ [])
    ∙ ap (λ (r : Bool). r && (p b && true)) (list_all-append p xs (a ∷ []))
    ∙ two_last (list_all p xs) (p a) (p b)
    ∙ sym (list_all-append p xs (x ∷ []) ∙ ap (λ (r : Bool). list_all p xs && (r && true)) is)

-- two elements become one, and one that passes
pub two_joined : (p : Lit → Bool) (xs : List Lit) (i j : ℕ) (d e y one : Lit) → i < length xs → j < length xs → i ≢ j → p one ≡ true → p y ≡ (p (get_or xs i d) && p (get_or xs j e))
    → list_all p (set (set xs j one) i y) ≡ list_all p xs
two_joined p xs i j d e y one li lj apart passes is =
    all_set p (set xs j one) i y inside
    ∙ ap (λ (r : Bool). r && rest) is
    ∙ and_regroup (p (get_or xs i d)) (p (get_or xs j e)) rest
    ∙ ap (λ (r : Bool). p (get_or xs j e) && r) others
    ∙ sym (all_at p xs j e lj)
  where
    rest : Bool
    rest = all_but p (set xs j one) i

    inside : i < length (set xs j one)
    inside = omega (arith, li, length-set xs j one)

    others : (p (get_or xs i d) && rest) ≡ all_but p xs j
    others =
        sym (all_at p (set xs j one) i d inside ∙ ap (λ (x : Lit). p x && rest) (get_or-set_other xs j i one d apart))
        ∙ all_set p xs j one lj
        ∙ ap (λ (r : Bool). r && all_but p xs j) passes

-- two tests that agree on the elements
pub same_tests : (p q : Lit → Bool) (xs : List Lit) → All (λ x. p x ≡ q x) xs → list_all p xs ≡ list_all q xs
same_tests p q [] h = refl
same_tests p q (x ∷ xs) h = ap₂ (λ (a : Bool) (b : Bool). a && b) (All-head (λ (l : Lit). p l ≡ q l) x xs h) (same_tests p q xs (All-tail (λ (l : Lit). p l ≡ q l) x xs h))
