-- Matched frames suit each other.
use Rattle.std.proofs.Common.{◌≡◌, ℕ, zero, suc, ◌+◌, ◌-◌, ◌≤◌, not, true, List, [], ◌∷◌, ◌++◌, length, length-append, map, take, Option, Some, None, refl, sym, ap, ◌∙◌, subst, inl, inr, arith}
use Rattle.std.specs.List.{list_all}
use Rattle.std.proofs.lemmas.Bool.{and_from, both_ways, cases_Bool, cond-true, cond-false, not_from_false, not_from_true, or_cases, true_from_ne_false}
use Rattle.std.proofs.lemmas.List.{append_assoc, length-map, take-map, take_at}
use Rattle.syn_netlist.specs.Lists.{Frame, latch_output, sources}
use Rattle.syn_netlist.specs.Numbers.{all_below, word_at, words_at}
use Rattle.syn_netlist.specs.Words.{distinct, has_word, without}
use Rattle.syn_netlist.proofs.Places.{below_from, below_parts}
use Rattle.syn_netlist.proofs.Sets.{all_at, all_each, distinct_right, has_left, has_right, has_word-append}
use Rattle.syn_network.proofs.Inner.{no_more}
use Rattle.syn_network.proofs.Observing.{not_there}
use Rattle.syn_compare.specs.Matching.{AreMatched, givens, lacked, latch_names, or_else, unmatched}
use Rattle.syn_compare.specs.Ordering.{Suits}

lacked_none : (others words : List (List ℕ)) → lacked others words ≡ None → list_all (has_word others) words ≡ true
lacked_none others [] e = refl
lacked_none others (w ∷ ws) e = elim (cases_Bool (has_word others w)) [
  | inl t ↦ and_from (has_word others w) (list_all (has_word others) ws) t
      (lacked_none others ws (sym (cond-false (not (has_word others w)) (Some w) (lacked others ws) (not_from_true (has_word others w) t)) ∙ e))
  | inr f ↦ absurd (let some : Some w ≡ None = sym (cond-true (not (has_word others w)) (Some w) (lacked others ws) (not_from_false (has_word others w) f)) ∙ e in cc)
]

or_none : (a b : Option (List ℕ)) → or_else a b ≡ None → (a ≡ None) × (b ≡ None)
or_none None b e = (refl, e)
or_none (Some w) b e = absurd (cc)

-- lists of which none lacks a word of the other
pub both_within : (xs ys : List (List ℕ)) → unmatched xs ys ≡ None → (list_all (has_word ys) xs ≡ true) × (list_all (has_word xs) ys ≡ true)
both_within xs ys e = let parts = or_none (lacked ys xs) (lacked xs ys) e in (lacked_none ys xs parts.0, lacked_none xs ys parts.1)

within_both : (xs ys ps qs : List (List ℕ)) → list_all (has_word xs) ps ≡ true → list_all (has_word ys) qs ≡ true → list_all (has_word (xs ++ ys)) (ps ++ qs) ≡ true
within_both xs ys ps qs first second = all_each (has_word (xs ++ ys)) (ps ++ qs) (λ w h. elim (or_cases (has_word ps w) (has_word qs w) (sym (has_word-append ps qs w) ∙ h)) [
  | inl t ↦ has_left xs ys w (all_at (has_word xs) ps w first t)
  | inr t ↦ has_right xs ys w (all_at (has_word ys) qs w second t)
])

pub sources_parts : (f : Frame) → givens f ++ latch_names f ≡ sources f
sources_parts f = append_assoc f.inputs (without f.inputs f.clocks) (map latch_output f.latches)

sources_within : (f g : Frame) → list_all (has_word (givens f)) (givens g) ≡ true → list_all (has_word (latch_names f)) (latch_names g) ≡ true → list_all (has_word (sources f)) (sources g) ≡ true
sources_within f g first second =
    subst (λ (xs : List (List ℕ)). list_all (has_word xs) (sources g) ≡ true) (sources_parts f)
    (subst (λ (ys : List (List ℕ)). list_all (has_word (givens f ++ latch_names f)) ys ≡ true) (sources_parts g) (within_both (givens f) (latch_names f) (givens g) (latch_names g) first second))

-- the first frame has no source that the second lacks
pub back_within : (f g : Frame) → AreMatched f g → list_all (has_word (sources g)) (sources f) ≡ true
back_within f g h = sources_within g f (both_within (givens f) (givens g) h.givens_are).0 (both_within (latch_names f) (latch_names g) h.latches_are).0

few_words : (xs ys : List (List ℕ)) → distinct xs ≡ true → list_all (has_word ys) xs ≡ true → length xs ≤ length ys
few_words xs ys d h = no_more xs ys d (λ w t. all_at (has_word ys) xs w h t)

pub matched_suits : (f g : Frame) → distinct (sources f) ≡ true → distinct (sources g) ≡ true → AreMatched f g → Suits f g
matched_suits f g df dg h = record {
  sources_are = there;
  count = omega (arith, few_words (sources g) (sources f) dg there, few_words (sources f) (sources g) df (back_within f g h));
  outputs_are = (both_within f.outputs g.outputs h.outputs_are).0;
  latches_are = (both_within (latch_names f) (latch_names g) h.latches_are).0;
}
  where
    there : list_all (has_word (sources f)) (sources g) ≡ true
    there = sources_within f g (both_within (givens f) (givens g) h.givens_are).1 (both_within (latch_names f) (latch_names g) h.latches_are).1

pub suits_itself : (f : Frame) → Suits f f
suits_itself f = record { sources_are = within (sources f); count = refl; outputs_are = within f.outputs; latches_are = within (latch_names f) }
  where
    within : (ws : List (List ℕ)) → list_all (has_word ws) ws ≡ true
    within ws = all_each (has_word ws) ws (λ w h. h)

-- the numbers of the sources, but for as many as there are latches, are those of the inputs and clocks
pub givens_taken : (names : List (List ℕ)) (numbers : List ℕ) (f : Frame) (k : ℕ) → words_at names numbers ≡ sources f → k ≡ length numbers - length f.latches → words_at names (take k numbers) ≡ givens f
givens_taken names numbers f k e front =
    let same : words_at names numbers ≡ givens f ++ latch_names f = e ∙ sym (sources_parts f) in
    let long : length numbers ≡ length (givens f) + length f.latches =
    sym (length-map numbers (word_at names)) ∙ ap (λ (ws : List (List ℕ)). length ws) same ∙ length-append (givens f) (latch_names f) ∙ ap (λ (k : ℕ). length (givens f) + k) (length-map f.latches latch_output) in
    sym (take-map (word_at names) k numbers) ∙ ap (λ (ws : List (List ℕ)). take k ws) same ∙ take_at (givens f) (latch_names f) k (omega (arith, long, front))

pub below_taken : (count k : ℕ) (numbers : List ℕ) → all_below count numbers ≡ true → all_below count (take k numbers) ≡ true
below_taken count zero ns h = refl
below_taken count (suc k) [] h = refl
below_taken count (suc k) (n ∷ ns) h = let parts = below_parts count n ns h in below_from count n (take k ns) parts.0 (below_taken count k ns parts.1)

-- latches have different names
pub latches_once : (f : Frame) → distinct (sources f) ≡ true → distinct (latch_names f) ≡ true
latches_once f h = distinct_right (givens f) (latch_names f) (subst (λ (ws : List (List ℕ)). distinct ws ≡ true) (sym (sources_parts f)) h)

-- words of numbers of names are names
pub named_there : (names : List (List ℕ)) (numbers : List ℕ) (w : List ℕ) → all_below (length names) numbers ≡ true → has_word (words_at names numbers) w ≡ true → has_word names w ≡ true
named_there names numbers w below h = true_from_ne_false (has_word names w) (λ none. both_ways (has_word (words_at names numbers) w) (not_there names numbers w below none) h)

-- a word that is not lacked is passed over
pub lacked_more : (others : List (List ℕ)) (w : List ℕ) (ws : List (List ℕ)) → has_word others w ≡ true → lacked others (w ∷ ws) ≡ lacked others ws
lacked_more others w ws t = cond-false (not (has_word others w)) (Some w) (lacked others ws) (not_from_true (has_word others w) t)

-- the first word that is lacked, of the one list or of the other
pub unmatched_first : (xs ys : List (List ℕ)) (w : List ℕ) → Some w ≡ lacked ys xs → Some w ≡ unmatched xs ys
unmatched_first xs ys w e = ap (λ (o : Option (List ℕ)). or_else o (lacked xs ys)) e

pub unmatched_second : (xs ys : List (List ℕ)) (o : Option (List ℕ)) → None ≡ lacked ys xs → o ≡ lacked xs ys → o ≡ unmatched xs ys
unmatched_second xs ys o none e = e ∙ ap (λ (a : Option (List ℕ)). or_else a (lacked xs ys)) none
