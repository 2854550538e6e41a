-- Cuts that come behind all that are kept.
use Rattle.std.proofs.Common.{◌≡◌, ℕ, zero, suc, ◌<◌, ◌≤◌, nat_lt, nat_eq, ◌&&◌, Bool, true, false, if◌then◌else◌, List, [], ◌∷◌, length, take, get_or, bytes_eq, refl, sym, ap, ◌∙◌, subst, inl, inr, arith}
use Rattle.std.specs.List.{list_all}
use Rattle.std.proofs.lemmas.Bool.{and_parts, and_from, or_cases, both_ways, ltb-true, eqb-true, false_from_ne_true, cases_lt}
use Rattle.std.proofs.lemmas.Slice.Eq.{bytes_eq-Decides}
use Rattle.syn_cuts.specs.Cuts.{leaves_before, comes_before, put, arranged, union, unions_with}
use Rattle.syn_cuts.specs.Laws.{are_in_order}
use Rattle.syn_cuts.specs.Keeping.{NoneLonger}
use Rattle.syn_cuts.proofs.Putting.{IsBehind, put_behind, step_union, take_short, unions_small, unions_large}
use Rattle.syn_cuts.proofs.Rising.{first_long}
use Rattle.syn_cuts.proofs.Sorting.{arranged_order, before_total, before_trans}

-- no cut comes before itself

leaves_apart : (xs : List ℕ) → leaves_before xs xs ≡ false
leaves_apart [] = refl
leaves_apart (x ∷ xs) = false_from_ne_true (leaves_before (x ∷ xs) (x ∷ xs)) (λ h. elim (or_cases (nat_lt x x) (nat_eq x x && leaves_before xs xs) h) [
  | inl l ↦ let less = ltb-true x x l in absurd (omega (arith, less))
  | inr m ↦ both_ways (leaves_before xs xs) (leaves_apart xs) (and_parts (nat_eq x x) (leaves_before xs xs) m).1
])

before_apart : (c : List ℕ) → comes_before c c ≡ false
before_apart c = false_from_ne_true (comes_before c c) (λ h. elim (or_cases (nat_lt (length c) (length c)) (nat_eq (length c) (length c) && leaves_before c c) h) [
  | inl l ↦ let less = ltb-true (length c) (length c) l in absurd (omega (arith, less))
  | inr m ↦ both_ways (leaves_before c c) (leaves_apart c) (and_parts (nat_eq (length c) (length c)) (leaves_before c c) m).1
])

-- of two cuts one comes before the other, or they are one

pub not_before : (c d : List ℕ) → comes_before d c ≡ true → comes_before c d ≡ false
not_before c d h = false_from_ne_true (comes_before c d) (λ t. both_ways (comes_before c c) (before_apart c) (before_trans c d c t h))

pub not_same : (c d : List ℕ) → comes_before d c ≡ true → bytes_eq c d ≡ false
not_same c d h = false_from_ne_true (bytes_eq c d) (λ t. both_ways (comes_before d d) (before_apart d) (subst (λ x. comes_before d x ≡ true) ((bytes_eq-Decides c d).0 t) h))

pub before_other : (c d : List ℕ) → comes_before d c ≡ false → bytes_eq c d ≡ false → comes_before c d ≡ true
before_other c d h ne = before_total d c h (false_from_ne_true (bytes_eq d c) (λ t. both_ways (bytes_eq c d) ne ((bytes_eq-Decides c d).1 (sym ((bytes_eq-Decides d c).0 t)))))

pub neither_before : (c d : List ℕ) → comes_before d c ≡ false → comes_before c d ≡ false → bytes_eq c d ≡ true
neither_before c d h g = go (bytes_eq c d) refl
  where
    go : (b : Bool) → bytes_eq c d ≡ b → bytes_eq c d ≡ true
    go true e = e
    go false e = absurd (both_ways (comes_before c d) g (before_other c d h e))

-- a longer cut comes behind
pub longer_behind : (c d : List ℕ) → length d < length c → comes_before c d ≡ false
longer_behind c d more = false_from_ne_true (comes_before c d) (λ h. elim (or_cases (nat_lt (length c) (length d)) (nat_eq (length c) (length d) && leaves_before c d) h) [
  | inl l ↦ let less = ltb-true (length c) (length d) l in absurd (omega (arith, less, more))
  | inr m ↦ let same = eqb-true (length c) (length d) (and_parts (nat_eq (length c) (length d)) (leaves_before c d) m).0 in absurd (omega (arith, same, more))
])

-- a cut put behind one of cuts in order leaves those as far as that one

all_at : (p : List ℕ → Bool) (ds : List (List ℕ)) (i : ℕ) → i < length ds → list_all p ds ≡ true → p (get_or ds i []) ≡ true
all_at p [] i lt h = absurd (omega arith)
all_at p (d ∷ ds) zero lt h = (and_parts (p d) (list_all p ds) h).0
all_at p (d ∷ ds) (suc i) lt h = all_at p ds i (omega arith) (and_parts (p d) (list_all p ds) h).1

put_late : (c : List ℕ) (ds : List (List ℕ)) (i : ℕ) → i < length ds → comes_before c (get_or ds i []) ≡ false → are_in_order ds ≡ true → take (suc i) (put c ds) ≡ take (suc i) ds
put_late c [] i lt h order = absurd (omega arith)
put_late c (d ∷ ds) zero lt h order = go (comes_before c d) refl (bytes_eq c d)
  where
    go : (b : Bool) → comes_before c d ≡ b → (e : Bool) → take (suc zero) (if b then c ∷ d ∷ ds else if e then d ∷ ds else d ∷ put c ds) ≡ take (suc zero) (d ∷ ds)
    go true b e = absurd (both_ways (comes_before c d) h b)
    go false b true = refl
    go false b false = refl
put_late c (d ∷ ds) (suc i) lt h order = go (comes_before c d) refl (bytes_eq c d) (put_late c ds i (omega arith) h parts.1)
  where
    parts : (list_all (comes_before d) ds ≡ true) × (are_in_order ds ≡ true)
    parts = and_parts (list_all (comes_before d) ds) (are_in_order ds) order

    go : (b : Bool) → comes_before c d ≡ b → (e : Bool) → take (suc i) (put c ds) ≡ take (suc i) ds
        → take (suc (suc i)) (if b then c ∷ d ∷ ds else if e then d ∷ ds else d ∷ put c ds) ≡ take (suc (suc i)) (d ∷ ds)
    go true b e ih = absurd (both_ways (comes_before c (get_or ds i [])) h (before_trans c d (get_or ds i []) b (all_at (comes_before d) ds i (omega arith) parts.0)))
    go false b true ih = refl
    go false b false ih = ap (λ (l : List (List ℕ)). d ∷ l) ih

pub put_last : (c : List ℕ) (ds : List (List ℕ)) → length ds ≡ 31 → comes_before c (get_or ds 30 []) ≡ false → are_in_order ds ≡ true → take 31 (put c ds) ≡ ds
put_last c ds full h order = put_late c ds 30 (omega (arith, full)) h order ∙ take_short ds 31 (omega (arith, full))

-- a cut comes behind all cuts in order as far as one that comes before it
pub behind_past : (c : List ℕ) (ds : List (List ℕ)) (i : ℕ) → i < length ds → comes_before (get_or ds i []) c ≡ true → are_in_order ds ≡ true → IsBehind c ds (suc i)
behind_past c [] i lt h order = absurd (omega arith)
behind_past c (d ∷ ds) zero lt h order = put_behind c d ds (not_before c d h) (not_same c d h)
behind_past c (d ∷ ds) (suc i) lt h order =
    let parts = and_parts (list_all (comes_before d) ds) (are_in_order ds) order in
    let first = before_trans d (get_or ds i []) c (all_at (comes_before d) ds i (omega arith) parts.0) h in
    put_behind c d ds (not_before c d first) (not_same c d first) ∙ ap (λ (l : List (List ℕ)). d ∷ l) (behind_past c ds i (omega arith) h parts.1)

-- a union that is refused: too large, or behind all that are kept
pub refused : (k most : ℕ) (c d : List ℕ) (old : List (List ℕ)) → length old ≤ 31 → NoneLonger most k old → most < length (union c d)
    → old ≡ take 31 (arranged old (unions_with k c (d ∷ [])))
refused k most c d old few late more = elim (cases_lt k (length (union c d))) [
  | inl large ↦ sym (take_short old 31 few) ∙ ap (λ us. take 31 (arranged old us)) (sym (unions_large k c d [] large))
  | inr small ↦ sym (late (union c d) more small) ∙ ap (λ us. take 31 (arranged old us)) (sym (unions_small k c d [] small))
]

-- no union of a cut that is too long is kept
pub none_kept : (k most : ℕ) (c : List ℕ) (ds old : List (List ℕ)) → length old ≤ 31 → NoneLonger most k old → most < length c → old ≡ take 31 (arranged old (unions_with k c ds))
none_kept k most c [] old few none more = sym (take_short old 31 few)
none_kept k most c (d ∷ ds) old few none more =
    let longer = first_long c d in
    none_kept k most c ds old few none more
    ∙ step_union k c d ds old old (take 31 (arranged old (unions_with k c (d ∷ ds)))) (d ∷ ds) refl refl (refused k most c d old few none (omega (arith, longer, more)))

-- the first of arranged cuts are in order

take_order : (n : ℕ) (ds : List (List ℕ)) → are_in_order ds ≡ true → are_in_order (take n ds) ≡ true
take_order zero ds h = refl
take_order (suc n) [] h = refl
take_order (suc n) (d ∷ ds) h =
    let parts = and_parts (list_all (comes_before d) ds) (are_in_order ds) h in
    and_from (list_all (comes_before d) (take n ds)) (are_in_order (take n ds)) (take_all (comes_before d) n ds parts.0) (take_order n ds parts.1)
  where
    take_all : (p : List ℕ → Bool) (n : ℕ) (es : List (List ℕ)) → list_all p es ≡ true → list_all p (take n es) ≡ true
    take_all p zero es h = refl
    take_all p (suc n) [] h = refl
    take_all p (suc n) (e ∷ es) h = let parts = and_parts (p e) (list_all p es) h in and_from (p e) (list_all p (take n es)) parts.0 (take_all p n es parts.1)

pub order_on : (old new us : List (List ℕ)) → are_in_order old ≡ true → new ≡ take 31 (arranged old us) → are_in_order new ≡ true
order_on old new us order e = subst (λ l. are_in_order l ≡ true) (sym e) (take_order 31 (arranged old us) (arranged_order old us order))
