-- Names and their numbers, as words are added and looked up.
use Rattle.std.proofs.Common.{◌≡◌, ℕ, ◌<◌, nat_lt, true, List, [], ◌∷◌, ◌++◌, length, refl, sym, ap, ◌∙◌, subst}
use Rattle.std.proofs.lemmas.Bool.{and_parts, and_from, lt-ltb}
use Rattle.syn_netlist.specs.Words.{has_word}
use Rattle.syn_netlist.specs.Numbers.{word_at, words_at, with_word, all_below, Grows}
use Rattle.syn_netlist.proofs.Growing.{Grows-with_word, word_at-grows}
use Rattle.syn_netlist.proofs.Places.{has_word_at}

-- a number that was there before
pub known_before : (names more : List (List ℕ)) (word : List ℕ) (i : ℕ) → more ≡ with_word names word → word_at more i ≡ word → i < length names → has_word names word ≡ true
known_before names more word i m w lt =
    let grown : Grows names more = subst (Grows names) (sym m) (Grows-with_word names word) in
    subst (λ v. has_word names v ≡ true) (sym (word_at-grows names more i grown lt) ∙ w) (has_word_at names i lt)

pub words_at-append : (names : List (List ℕ)) (is : List ℕ) (i : ℕ) → words_at names (is ++ i ∷ []) ≡ words_at names is ++ word_at names i ∷ []
words_at-append names [] i = refl
words_at-append names (j ∷ js) i = ap (λ (l : List (List ℕ)). word_at names j ∷ l) (words_at-append names js i)

pub all_below-append : (n : ℕ) (is : List ℕ) (i : ℕ) → all_below n is ≡ true → i < n → all_below n (is ++ i ∷ []) ≡ true
all_below-append n [] i h lt = and_from (nat_lt i n) true (lt-ltb i n lt) refl
all_below-append n (j ∷ js) i h lt = let p = and_parts (nat_lt j n) (all_below n js) h in and_from (nat_lt j n) (all_below n (js ++ i ∷ [])) p.0 (all_below-append n js i p.1 lt)
