-- Words and their numbers: sets of names by marks, names that are copied, names that are added.
use Rattle.std.proofs.Common.{◌≡◌, ℕ, ◌+◌, ◌-◌, ◌<◌, ◌≤◌, if◌then◌else◌, Bool, true, false, List, [], ◌∷◌, ◌++◌, length, get_or, refl, sym, ap, ap₂, ◌∙◌, subst, inl, inr, arith}
use Rattle.std.proofs.lemmas.Bool.{cases_lt}
use Rattle.std.proofs.lemmas.List.{length-map, get_or_default, map-append}
use Rattle.syn_netlist.specs.Marks.{AreMarks}
use Rattle.syn_netlist.specs.Numbers.{word_at, words_at, with_word, all_below, Grows}
use Rattle.syn_netlist.specs.Words.{has_word, distinct}
use Rattle.syn_netlist.proofs.Growing.{Grows-with_word, words_at-grows, all_below-more, length-grows}
use Rattle.syn_netlist.proofs.Places.{has_words, all_below-append, below_from}
use Rattle.syn_network.specs.Spelling.{inner_word, free_names, inner_names}
use Rattle.syn_network.proofs.Inner.{many_free, free_names_more, free_names_found}

-- a mark tells whether the name of its number is in the set
pub marked_has : (names : List (List ℕ)) (numbers : List ℕ) (marks : List Bool) (i : ℕ) (d : Bool) → distinct names ≡ true → all_below (length names) numbers ≡ true → length marks ≡ length names → AreMarks numbers marks → i < length names
    → get_or marks i d ≡ has_word (words_at names numbers) (word_at names i)
marked_has names numbers marks i d once below long marked lt = get_or_default marks i d false (omega (arith, lt, long)) ∙ marked.at i (omega (arith, lt, long)) ∙ sym (has_words names numbers i once below lt)

-- one name more
pub words_pushed : (names more : List (List ℕ)) (numbers : List ℕ) (word : List ℕ) (i : ℕ) → more ≡ with_word names word → word_at more i ≡ word → all_below (length names) numbers ≡ true
    → words_at more (numbers ++ i ∷ []) ≡ words_at names numbers ++ word ∷ []
words_pushed names more numbers word i e at below =
    let grows : Grows names more = subst (Grows names) (sym e) (Grows-with_word names word) in
    map-append (word_at more) numbers (i ∷ []) ∙ ap₂ (λ (xs ys : List (List ℕ)). xs ++ ys) (words_at-grows names more numbers grows below) (ap (λ (w : List ℕ). w ∷ []) at)

pub below_pushed : (names more : List (List ℕ)) (numbers : List ℕ) (word : List ℕ) (i : ℕ) → more ≡ with_word names word → i < length more → all_below (length names) numbers ≡ true
    → all_below (length more) (numbers ++ i ∷ []) ≡ true
below_pushed names more numbers word i e lt below =
    let grows : Grows names more = subst (Grows names) (sym e) (Grows-with_word names word) in
    all_below-append (length more) numbers (i ∷ []) (all_below-more (length names) (length more) numbers (length-grows names more grows) below) (below_from (length more) i [] lt refl)

-- seeking inner names: k is the next number to try

pub still_sought : (taken names : List (List ℕ)) (numbers : List ℕ) (count k : ℕ) → words_at names numbers ≡ free_names taken (k - 1) → length numbers < count → k - 1 < count + length taken
still_sought taken names numbers count k found lt = elim (cases_lt (k - 1) (count + length taken)) [
  | inl less ↦ less
  | inr past ↦ absurd (omega (arith, many_free taken count (k - 1) past, ap (λ (ws : List (List ℕ)). length ws) found, length-map numbers (word_at names), lt))
]

pub found_more : (taken before after : List (List ℕ)) (k : ℕ) → 0 < k → before ≡ free_names taken (k - 1) → after ≡ before ++ (if has_word taken (inner_word k) then [] else inner_word k ∷ []) → after ≡ free_names taken (k + 1 - 1)
found_more taken before after k low found more =
    more ∙ ap (λ (ws : List (List ℕ)). ws ++ (if has_word taken (inner_word k) then [] else inner_word k ∷ [])) found ∙ sym (free_names_more taken k low)
    ∙ ap (free_names taken) (let s : k ≡ k + 1 - 1 = omega arith in s)

pub all_found : (taken names : List (List ℕ)) (numbers : List ℕ) (count k : ℕ) → words_at names numbers ≡ free_names taken (k - 1) → k - 1 ≤ count + length taken → length numbers ≡ count → words_at names numbers ≡ inner_names taken count
all_found taken names numbers count k found le e =
    found ∙ free_names_found taken count (k - 1) le (ap (λ (ws : List (List ℕ)). length ws) (sym found) ∙ length-map numbers (word_at names) ∙ e)
