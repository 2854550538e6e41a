-- Names and their places among words: one word more, and where a word stands.
use Rattle.std.proofs.Common.{◌≡◌, ℕ, ◌+◌, ◌<◌, ◌||◌, true, false, List, [], ◌∷◌, ◌++◌, length, length-append, replicate, take, get_or, bytes_eq, Option, Some, None, refl, sym, ap, ◌∙◌, subst, inl, inr, arith}
use Rattle.std.proofs.Math.ListN.{set, length-set}
use Rattle.std.proofs.lemmas.Bool.{or_from}
use Rattle.std.proofs.lemmas.Bool.Decides.{eqb_tells}
use Rattle.std.proofs.lemmas.List.{get_or_push, get_or-set_same, get_or-set_other, length-map, length-take-le, map-append, take_more}
use Rattle.syn_netlist.specs.Choosing.{IsPlace}
use Rattle.syn_netlist.specs.Numbers.{all_below, word_at, words_at}
use Rattle.syn_netlist.specs.Words.{distinct, has_word}
use Rattle.syn_netlist.proofs.Growing.{word_at-grows}
use Rattle.syn_netlist.proofs.Places.{below_at, has_word_at, same_number}
use Rattle.syn_netlist.proofs.Renumbering as renumbering
use Rattle.syn_netlist.proofs.Sets.{has_word-append}
use Rattle.syn_network.specs.GraphShape.{place}
use Rattle.syn_network.proofs.Gates.{place_back}
use Rattle.syn_compare.specs.Places.{HavePlaces}

pub none_placed : (names : List (List ℕ)) → HavePlaces names [] (replicate (length names) None)
none_placed names = record { long = (renumbering.none_placed names).count; at = (renumbering.none_placed names).at }

-- another word keeps its place, or has none still
place_stays : (words : List (List ℕ)) (w word : List ℕ) (o : Option ℕ) → bytes_eq w word ≡ false → IsPlace words word o → IsPlace (words ++ w ∷ []) word o
place_stays words w word o apart h = record {
  there = λ p e. let at = h.there p e in (
    (let lt : p < length words = at.0 in omega (arith, lt, length-append words (w ∷ []))),
    word_at-grows words (words ++ w ∷ []) p (record { rest = w ∷ []; is = refl }) at.0 ∙ at.1,
  );
  none = λ e. has_word-append words (w ∷ []) word ∙ or_from (has_word words word) (bytes_eq w word || false) (h.none e) (ap (λ b. b || false) apart);
}

-- a word that is put at the end has its place there
last_place : (words : List (List ℕ)) (w : List ℕ) (k : ℕ) → length words ≡ k → IsPlace (words ++ w ∷ []) w (Some k)
last_place words w k long = record {
  there = λ p e. let same : k ≡ p = cc in ((omega (arith, long, same, length-append words (w ∷ []))), get_or_push words w [] p (long ∙ same));
  none = λ e. absurd (cc);
}

-- one word more
pub placed_more : (names : List (List ℕ)) (numbers : List ℕ) (places : List (Option ℕ)) (k : ℕ) → distinct names ≡ true → all_below (length names) numbers ≡ true → k < length numbers
    → HavePlaces names (words_at names (take k numbers)) places → HavePlaces names (words_at names (take (k + 1) numbers)) (set places (get_or numbers k 0) (Some k))
placed_more names numbers places k d below lt h = record {
  long = length-set places n (Some k) ∙ h.long;
  at = λ i li. subst (λ (ws : List (List ℕ)). IsPlace ws (word_at names i) (get_or (set places n (Some k)) i None)) (sym is) (at i li);
}
  where
    n : ℕ
    n = get_or numbers k 0

    low : n < length names
    low = below_at (length names) numbers k below lt

    words : List (List ℕ)
    words = words_at names (take k numbers)

    is : words_at names (take (k + 1) numbers) ≡ words ++ word_at names n ∷ []
    is = ap (words_at names) (take_more numbers k 0 lt) ∙ map-append (word_at names) (take k numbers) (n ∷ [])

    long : length words ≡ k
    long = length-map (take k numbers) (word_at names) ∙ length-take-le k numbers (omega arith)

    at : (i : ℕ) → i < length names → IsPlace (words ++ word_at names n ∷ []) (word_at names i) (get_or (set places n (Some k)) i None)
    at i li = elim (eqb_tells n i) [
      | inl (t, e) ↦ subst (λ (j : ℕ). IsPlace (words ++ word_at names n ∷ []) (word_at names j) (get_or (set places n (Some k)) j None)) e
          (subst (IsPlace (words ++ word_at names n ∷ []) (word_at names n)) (sym (get_or-set_same places n (Some k) None (omega (arith, low, h.long)))) (last_place words (word_at names n) k long))
      | inr (f, ne) ↦ subst (IsPlace (words ++ word_at names n ∷ []) (word_at names i)) (sym (get_or-set_other places n i (Some k) None (λ e. ne (sym e))))
          (place_stays words (word_at names n) (word_at names i) (get_or places i None) (same_number names n i d low li ∙ f) (h.at i li))
    ]

-- a place of a word among distinct ones is where it stands
pub place_is : (words : List (List ℕ)) (word : List ℕ) (o : Option ℕ) (p : ℕ) → distinct words ≡ true → IsPlace words word o → o ≡ Some p → p ≡ place word words
place_is words word o p d h e = let at = h.there p e in sym (ap (λ (w : List ℕ). place w words) (sym at.1) ∙ place_back words d p at.0)

-- a word that has a place is there
pub word_there : (words : List (List ℕ)) (word : List ℕ) (o : Option ℕ) (p : ℕ) → IsPlace words word o → o ≡ Some p → has_word words word ≡ true
word_there words word o p h e = let at = h.there p e in subst (λ (w : List ℕ). has_word words w ≡ true) at.1 (has_word_at words p at.0)
