-- Lists of words as sets, for circles.
use Rattle.std.proofs.Common.{◌≡◌, ℕ, suc, ◌≤◌, ◌||◌, not, Bool, true, false, if◌then◌else◌, List, [], ◌∷◌, ◌++◌, length, find, bytes_eq, refl, sym, ap, ◌∙◌, subst, inl, inr, Some, arith}
use Rattle.std.specs.List.{list_any, list_all}
use Rattle.std.proofs.lemmas.Bool.{both_ways, false_from_ne_true, and_parts, and_from, or_cases, or_left, or_right, or_parts, not-true}
use Rattle.syn_netlist.specs.Words.{has_word, distinct}
use Rattle.syn_netlist.proofs.Sets.{same_word, word_same}

pub other_word : (x w : List ℕ) → bytes_eq x w ≡ false → bytes_eq w x ≡ false
other_word x w h = false_from_ne_true (bytes_eq w x) (λ e. both_ways (bytes_eq x w) h (subst (λ v. bytes_eq x v ≡ true) (sym (same_word w x e)) (word_same x)))

pub all_snoc : (test : List ℕ → Bool) (xs : List (List ℕ)) (x : List ℕ) → list_all test xs ≡ true → test x ≡ true → list_all test (xs ++ x ∷ []) ≡ true
all_snoc test [] x a h = and_from (test x) true h refl
all_snoc test (y ∷ ys) x a h = let p = and_parts (test y) (list_all test ys) a in and_from (test y) (list_all test (ys ++ x ∷ [])) p.0 (all_snoc test ys x p.1 h)

-- the list without the first place of a word
abbrev pub drop_one : List ℕ → List (List ℕ) → List (List ℕ)
drop_one x [] = []
drop_one x (y ∷ ys) = if bytes_eq y x then ys else y ∷ drop_one x ys

drop_length : (x : List ℕ) (ys : List (List ℕ)) → has_word ys x ≡ true → length ys ≡ suc (length (drop_one x ys))
drop_length x [] h = absurd (both_ways false refl h)
drop_length x (y ∷ ys) h = go (bytes_eq y x) h (drop_length x ys)
  where
    go : (t : Bool) → (t || has_word ys x) ≡ true → (has_word ys x ≡ true → length ys ≡ suc (length (drop_one x ys))) → suc (length ys) ≡ suc (length (if t then ys else y ∷ drop_one x ys))
    go true h ih = refl
    go false h ih = ap suc (ih h)

drop_keeps : (x w : List ℕ) (ys : List (List ℕ)) → bytes_eq x w ≡ false → has_word ys w ≡ true → has_word (drop_one x ys) w ≡ true
drop_keeps x w [] e h = h
drop_keeps x w (y ∷ ys) e h = go (bytes_eq y x) refl (drop_keeps x w ys e)
  where
    go : (t : Bool) → bytes_eq y x ≡ t → (has_word ys w ≡ true → has_word (drop_one x ys) w ≡ true) → has_word (if t then ys else y ∷ drop_one x ys) w ≡ true
    go true q ih = elim (or_cases (bytes_eq y w) (has_word ys w) h) [
      | inl z ↦ absurd (both_ways (bytes_eq x w) e (subst (λ v. bytes_eq v w ≡ true) (same_word y x q) z))
      | inr z ↦ z
    ]
    go false q ih = elim (or_cases (bytes_eq y w) (has_word ys w) h) [
      | inl z ↦ or_left (bytes_eq y w) (has_word (drop_one x ys) w) z
      | inr z ↦ or_right (bytes_eq y w) (has_word (drop_one x ys) w) (ih z)
    ]

drop_all : (x : List ℕ) (ys xs : List (List ℕ)) → has_word xs x ≡ false → list_all (has_word ys) xs ≡ true → list_all (has_word (drop_one x ys)) xs ≡ true
drop_all x ys [] h a = refl
drop_all x ys (w ∷ ws) h a =
    let p = and_parts (has_word ys w) (list_all (has_word ys) ws) a in
    let q = or_parts (bytes_eq w x) (has_word ws x) h in
    and_from (has_word (drop_one x ys) w) (list_all (has_word (drop_one x ys)) ws) (drop_keeps x w ys (other_word w x q.0) p.0) (drop_all x ys ws q.1 p.1)

-- distinct words of a list are no more than the list has
pub pigeons : (xs ys : List (List ℕ)) → distinct xs ≡ true → list_all (has_word ys) xs ≡ true → length xs ≤ length ys
pigeons [] ys d a = omega arith
pigeons (x ∷ xs) ys d a =
    let p = and_parts (not (has_word xs x)) (distinct xs) d in
    let q = and_parts (has_word ys x) (list_all (has_word ys) xs) a in
    let less : length xs ≤ length (drop_one x ys) = pigeons xs (drop_one x ys) p.1 (drop_all x ys xs (not-true (has_word xs x) p.0) q.1) in
    let size : length ys ≡ suc (length (drop_one x ys)) = drop_length x ys q.0 in
    omega arith

pub split_at_word : (xs : List (List ℕ)) (w : List ℕ) → has_word xs w ≡ true → (before : List (List ℕ)) × (more : List (List ℕ)) × (xs ≡ before ++ w ∷ more)
split_at_word [] w h = absurd (both_ways false refl h)
split_at_word (x ∷ xs) w h = go (bytes_eq x w) refl h (split_at_word xs w)
  where
    go : (t : Bool) → bytes_eq x w ≡ t → (t || has_word xs w) ≡ true → (has_word xs w ≡ true → (before : List (List ℕ)) × (more : List (List ℕ)) × (xs ≡ before ++ w ∷ more))
        → (before : List (List ℕ)) × (more : List (List ℕ)) × (x ∷ xs ≡ before ++ w ∷ more)
    go true e h ih = ([], xs, ap (λ v. v ∷ xs) (same_word x w e))
    go false e h ih = let r = ih h in (x ∷ r.0, r.1, ap (λ (l : List (List ℕ)). x ∷ l) r.2)

-- a word of a list that passes a test: then the first one is found
pub find_has : (test : List ℕ → Bool) (xs : List (List ℕ)) (w : List ℕ) → has_word xs w ≡ true → test w ≡ true → (x : List ℕ) × (find test xs ≡ Some x) × (test x ≡ true)
find_has test [] w h t = absurd (both_ways false refl h)
find_has test (x ∷ xs) w h t = go (test x) refl (λ r. find_has test xs w r t)
  where
    go : (b : Bool) → test x ≡ b → (has_word xs w ≡ true → (y : List ℕ) × (find test xs ≡ Some y) × (test y ≡ true)) → (y : List ℕ) × ((if b then Some x else find test xs) ≡ Some y) × (test y ≡ true)
    go true e ih = (x, refl, e)
    go false e ih = elim (or_cases (bytes_eq x w) (has_word xs w) h) [
      | inl s ↦ absurd (both_ways (test x) e (subst (λ v. test v ≡ true) (sym (same_word x w s)) t))
      | inr r ↦ ih r
    ]

pub find_any : (test : List ℕ → Bool) (xs : List (List ℕ)) → list_any test xs ≡ true → (x : List ℕ) × (find test xs ≡ Some x) × (test x ≡ true)
find_any test [] h = absurd (both_ways false refl h)
find_any test (x ∷ xs) h = go (test x) refl h (find_any test xs)
  where
    go : (b : Bool) → test x ≡ b → (b || list_any test xs) ≡ true → (list_any test xs ≡ true → (y : List ℕ) × (find test xs ≡ Some y) × (test y ≡ true)) → (y : List ℕ) × ((if b then Some x else find test xs) ≡ Some y) × (test y ≡ true)
    go true e h ih = (x, refl, e)
    go false e h ih = ih h

pub found_passes : (test : List ℕ → Bool) (xs : List (List ℕ)) (x : List ℕ) → find test xs ≡ Some x → test x ≡ true
found_passes test [] x e = absurd (cc)
found_passes test (y ∷ ys) x e = go (test y) refl e (found_passes test ys x)
  where
    go : (t : Bool) → test y ≡ t → (if t then Some y else find test ys) ≡ Some x → (find test ys ≡ Some x → test x ≡ true) → test x ≡ true
    go true h e ih = ap test (let s : x ≡ y = cc in s) ∙ h
    go false h e ih = ih e
