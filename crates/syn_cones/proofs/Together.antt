-- A word over the first of more leaves and then over the leaves of a cut that weren't found among them.
use Rattle.std.proofs.Common.{◌≡◌, ◌⊎◌, ℕ, ◌+◌, ◌-◌, ◌<◌, ◌≤◌, Bool, true, false, List, [], ◌∷◌, ◌++◌, length, map, get_or, take, drop, append_assoc, refl, sym, ap, ap₂, ◌∙◌, subst, inl, inr, arith}
use Rattle.std.specs.List.{remove}
use Rattle.std.proofs.lemmas.Bool.{and_parts, and_from, both_ways}
use Rattle.std.proofs.lemmas.List.{drop_more, take_more, map-append, length-map, length-append, length-take-le, length-drop, take_all, append-nil, drop_all}
use Rattle.syn_rows.specs.Nodes.{has_node}
use Rattle.syn_rows.proofs.Nodes.{has_at, has_cases, has_here, has_left, has_one, has_right}
use Rattle.syn_truth.specs.Words.{value_in}
use Rattle.syn_cones.specs.CutTruth.{AreClear, IsMade, IsPutTogether}
use Rattle.syn_cones.specs.Walk.{has_all}
use Rattle.syn_cones.specs.declared.carried.CutFunction.{CutFunction}
use Rattle.syn_cones.specs.declared.carried.Partial.{Partial}
use Rattle.syn_cones.proofs.Walking.{all_weaker}

-- lists of nodes

all_on : (xs ms : List ℕ) (m : ℕ) → has_all xs ms ≡ true → has_node xs m ≡ true → has_all xs (ms ++ m ∷ []) ≡ true
all_on xs [] m all has = and_from (has_node xs m) true has refl
all_on xs (n ∷ ns) m all has =
    let parts = and_parts (has_node xs n) (has_all xs ns) all in
    and_from (has_node xs n) (has_all xs (ns ++ m ∷ [])) parts.0 (all_on xs ns m parts.1 has)

remove_at : {X : Type 0} (xs ys : List X) (x : X) → remove (xs ++ x ∷ ys) (length xs) ≡ xs ++ ys
remove_at [] ys x = refl
remove_at (z ∷ zs) ys x = ap (λ l. z ∷ l) (remove_at zs ys x)

-- the values of the leaves

one_more : (v : ℕ → Bool) (more : List ℕ) (i : ℕ) (rest : List Bool) → i < length more → map v (take (i + 1) more) ++ rest ≡ map v (take i more) ++ v (get_or more i 0) ∷ rest
one_more v more i rest lt =
    ap (λ l. map v l ++ rest) (take_more more i 0 lt)
    ∙ ap (λ l. l ++ rest) (map-append v (take i more) (get_or more i 0 ∷ []))
    ∙ append_assoc (map v (take i more)) (v (get_or more i 0) ∷ []) rest

pub found_values : (v : ℕ → Bool) (leaves more : List ℕ) (i found : ℕ) → i < length more → found < length leaves → get_or leaves found 0 ≡ get_or more i 0
    → map v (take (i + 1) more) ++ map v (drop (found + 1) leaves) ≡ map v (take i more) ++ map v (drop found leaves)
found_values v leaves more i found lt there same =
    one_more v more i (map v (drop (found + 1) leaves)) lt
    ∙ ap (λ x. map v (take i more) ++ v x ∷ map v (drop (found + 1) leaves)) (sym same)
    ∙ ap (λ l. map v (take i more) ++ map v l) (sym (drop_more leaves found 0 there))

pub gap_values : (v : ℕ → Bool) (more : List ℕ) (i : ℕ) (rest : List Bool) → i < length more → remove (map v (take (i + 1) more) ++ rest) i ≡ map v (take i more) ++ rest
gap_values v more i rest lt =
    ap (λ l. remove l i) (one_more v more i rest lt)
    ∙ subst (λ k. remove (map v (take i more) ++ v (get_or more i 0) ∷ rest) k ≡ map v (take i more) ++ rest)
    (length-map (take i more) v ∙ length-take-le i more (omega arith))
    (remove_at (map v (take i more)) rest (v (get_or more i 0)))

values_count : (v : ℕ → Bool) (leaves more : List ℕ) (i found : ℕ) → i < length more → found ≤ length leaves
    → length (map v (take (i + 1) more) ++ map v (drop found leaves)) ≡ (i + 1) + (length leaves - found)
values_count v leaves more i found lt there =
    length-append (map v (take (i + 1) more)) (map v (drop found leaves))
    ∙ omega (arith, length-map (take (i + 1) more) v, length-take-le (i + 1) more (omega arith), length-map (drop found leaves) v, length-drop found leaves)

-- one leaf more

clear_on : (f : CutFunction) (root : ℕ) (leaves more : List ℕ) (i : ℕ) → i < length more → AreClear f root leaves (take i more)
    → (has_node leaves (get_or more i 0) ≡ true) ⊎ ((get_or more i 0 < f.min_inner) ⊎ (root < get_or more i 0)) → AreClear f root leaves (take (i + 1) more)
clear_on f root leaves more i lt clear one m has =
    elim (has_cases (take i more) (get_or more i 0 ∷ []) m (sym (ap (λ l. has_node l m) (take_more more i 0 lt)) ∙ has)) [
      | inl before ↦ clear m before
      | inr here ↦ subst (λ k. (has_node leaves k ≡ true) ⊎ ((k < f.min_inner) ⊎ (root < k))) (has_one (get_or more i 0) m here) one
    ]

has_on : (leaves more : List ℕ) (i : ℕ) → i < length more → has_all (take i more) leaves ≡ true → has_all (take (i + 1) more) leaves ≡ true
has_on leaves more i lt has =
    subst (λ l. has_all l leaves ≡ true) (sym (take_more more i 0 lt))
    (all_weaker (take i more) (take i more ++ get_or more i 0 ∷ []) leaves (λ n h. has_left (take i more) (get_or more i 0 ∷ []) n h) has)

pub found_next : (f : CutFunction) (root : ℕ) (leaves more : List ℕ) (i : ℕ) (part next : Partial) → IsPutTogether f root leaves more i part → i < length more → part.found < length leaves → get_or leaves part.found 0 ≡ get_or more i 0
    → next.word ≡ part.word → next.found ≡ part.found + 1 → IsPutTogether f root leaves more (i + 1) next
found_next f root leaves more i part next is lt there same word found = record {
  within = omega (arith, there, found);
  fits = omega (arith, is.fits, found);
  has =
      subst (λ k. has_all (take (i + 1) more) (take k leaves) ≡ true) (sym found)
      (subst (λ l. has_all (take (i + 1) more) l ≡ true) (sym (take_more leaves part.found 0 there))
      (all_on (take (i + 1) more) (take part.found leaves) (get_or leaves part.found 0) (has_on (take part.found leaves) more i lt is.has)
      (subst (λ l. has_node l (get_or leaves part.found 0) ≡ true) (sym (take_more more i 0 lt))
      (has_right (take i more) (get_or more i 0 ∷ []) (get_or leaves part.found 0) (subst (λ k. has_node (k ∷ []) (get_or leaves part.found 0) ≡ true) same (has_here (get_or leaves part.found 0) []))))));
  clear = clear_on f root leaves more i lt is.clear (inl (has_at leaves part.found (get_or more i 0) there same));
  word = λ v. ap (λ w. value_in w (map v (take (i + 1) more) ++ map v (drop next.found leaves))) word
      ∙ ap (λ k. value_in part.word (map v (take (i + 1) more) ++ map v (drop k leaves))) found
      ∙ ap (value_in part.word) (found_values v leaves more i part.found lt there same)
      ∙ is.word v;
}

pub gap_next : (f : CutFunction) (root : ℕ) (leaves more : List ℕ) (i : ℕ) (part next : Partial) → IsPutTogether f root leaves more i part → i < length more → length more ≤ 4 → length leaves + i < length more + part.found
    → (get_or more i 0 < f.min_inner) ⊎ (root < get_or more i 0) → next.found ≡ part.found
    → ((xs : List Bool) → i < length xs → length xs ≤ 4 → value_in next.word xs ≡ value_in part.word (remove xs i)) → IsPutTogether f root leaves more (i + 1) next
gap_next f root leaves more i part next is lt few room clear found values = record {
  within = omega (arith, is.within, found);
  fits = omega (arith, room, found);
  has = subst (λ k. has_all (take (i + 1) more) (take k leaves) ≡ true) (sym found) (has_on (take part.found leaves) more i lt is.has);
  clear = clear_on f root leaves more i lt is.clear (inr clear);
  word = λ v.
      let xs = map v (take (i + 1) more) ++ map v (drop part.found leaves) in
      let count = values_count v leaves more i part.found lt is.within in
      ap (λ k. value_in next.word (map v (take (i + 1) more) ++ map v (drop k leaves))) found
      ∙ values xs (omega (arith, count)) (omega (arith, count, is.within, room, few))
      ∙ ap (value_in part.word) (gap_values v more i (map v (drop part.found leaves)) lt)
      ∙ is.word v;
}

-- no leaf yet, and all leaves

pub begun : (f : CutFunction) (root : ℕ) (leaves more : List ℕ) (part : Partial) → length leaves ≤ length more → part.word ≡ f.word → part.found ≡ 0 → IsPutTogether f root leaves more 0 part
begun f root leaves more part le word found = record {
  within = omega (arith, found);
  fits = omega (arith, le, found);
  has = subst (λ k. has_all [] (take k leaves) ≡ true) (sym found) refl;
  clear = λ m has. absurd (both_ways false refl has);
  word = λ v. ap (λ w. value_in w (map v (drop part.found leaves))) word ∙ ap (λ k. value_in f.word (map v (drop k leaves))) found;
}

pub made : (f : CutFunction) (root : ℕ) (leaves more : List ℕ) (i : ℕ) (part : Partial) → IsPutTogether f root leaves more i part → i ≡ length more → IsMade f root leaves more part.word
made f root leaves more i part is e =
    let all : part.found ≡ length leaves = omega (arith, is.within, is.fits, e) in
    let whole : take i more ≡ more = take_all i more (omega (arith, e)) in
    let leaf : take part.found leaves ≡ leaves = take_all part.found leaves (omega (arith, all)) in
    let none : drop part.found leaves ≡ [] = drop_all part.found leaves (omega (arith, all)) in
    record {
      has = subst (λ l. has_all more l ≡ true) leaf (subst (λ l. has_all l (take part.found leaves) ≡ true) whole is.has);
      clear = subst (AreClear f root leaves) whole is.clear;
      values = λ v.
          ap (value_in part.word) (sym (append-nil (map v more)) ∙ ap₂ (λ l r. map v l ++ map v r) (sym whole) (sym none))
          ∙ is.word v;
    }
