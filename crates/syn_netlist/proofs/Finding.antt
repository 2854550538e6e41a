-- A word among vectors of bytes: its place, and a new one at the end.
use Rattle.std.proofs.Common.{◌≡◌, ℕ, zero, suc, ◌<◌, ◌||◌, Bool, true, false, List, [], ◌∷◌, ◌++◌, length, get_or, bytes_eq, refl, sym, ap, ap₂, ◌∙◌, inl, inr, arith, Some, if◌then◌else◌}
use Rattle.std.specs.Global.{Vec}
use Rattle.std.specs.List.{list_any, position}
use Rattle.std.proofs.lemmas.Bool.{cases_Bool, cond-false, false_from_ne_true, both_ways}
use Rattle.std.proofs.lemmas.List.{map-append}
use Rattle.std.proofs.lemmas.List.Quantifiers.{position-Some}
use Rattle.std.proofs.lemmas.List.Folds.{list_any_at}
use Rattle.syn_netlist.specs.Numbers.{word_at}
use Rattle.syn_netlist.specs.Texts.{texts}
use Rattle.syn_netlist.specs.Words.{has_word}
use Rattle.syn_netlist.proofs.Sets.{same_word, word_same}

pub bytes_eq-sym : (a b : List ℕ) → bytes_eq a b ≡ bytes_eq b a
bytes_eq-sym a b = elim (cases_Bool (bytes_eq b a)) [
  | inl e ↦ ap (bytes_eq a) (same_word b a e) ∙ word_same a ∙ sym e
  | inr e ↦ false_from_ne_true (bytes_eq a b) (λ h. both_ways (bytes_eq b a) e (ap (λ k. bytes_eq b k) (same_word a b h) ∙ word_same b)) ∙ sym e
]

pub has_texts : (keys : List (Vec ℕ)) (word : List ℕ) → list_any (λ v. bytes_eq word v.items) keys ≡ has_word (texts keys) word
has_texts [] word = refl
has_texts (k ∷ ks) word = ap₂ (λ (a b : Bool). a || b) (bytes_eq-sym word k.items) (has_texts ks word)

text_at : (keys : List (Vec ℕ)) (i : ℕ) (d : Vec ℕ) → i < length keys → word_at (texts keys) i ≡ (get_or keys i d).items
text_at [] i d lt = absurd (omega arith)
text_at (k ∷ ks) zero d lt = refl
text_at (k ∷ ks) (suc i) d lt = text_at ks i d (omega arith)

pub found_at : (keys : List (Vec ℕ)) (word : List ℕ) (i : ℕ) → position (λ v. bytes_eq word v.items) keys ≡ Some i → (i < length keys) × (word_at (texts keys) i ≡ word) × (has_word (texts keys) word ≡ true)
found_at [] word i h = cc
found_at (k ∷ ks) word i h =
    let (lt, here, before) = position-Some (λ v. bytes_eq word v.items) (k ∷ ks) i k h in
    (lt, text_at (k ∷ ks) i k lt ∙ sym (same_word word (get_or (k ∷ ks) i k).items here), sym (has_texts (k ∷ ks) word) ∙ list_any_at (λ v. bytes_eq word v.items) (k ∷ ks) i k lt here)

pub put_last : (keys more : List (Vec ℕ)) (copy : Vec ℕ) (word : List ℕ) → copy.items ≡ word → has_word (texts keys) word ≡ false
    → more ≡ (if list_any (λ v. bytes_eq copy.items v.items) keys then keys else (keys ++ copy ∷ [])) → texts more ≡ texts keys ++ word ∷ []
put_last keys more copy word same new h =
    ap texts (h ∙ cond-false (list_any (λ v. bytes_eq copy.items v.items) keys) keys (keys ++ copy ∷ []) (has_texts keys copy.items ∙ ap (has_word (texts keys)) same ∙ new))
    ∙ map-append (λ v. v.items) keys (copy ∷ []) ∙ ap (λ (w : List ℕ). texts keys ++ w ∷ []) same
