-- What a line says as a symbol.
use Rattle.std.specs.List.{list_any}
use Rattle.std.proofs.Common.{◌≡◌, ℕ, ◌<◌, ◌≤◌, ◌&&◌, not, nat_lt, Bool, true, false, cond, List, [], ◌∷◌, length, Option, Some, None, refl, sym, ap, ap₂, ◌∙◌, arith, lt-ltb, le-ltb}
use Rattle.std.proofs.lemmas.Bool.{cond-true, cond-false, and_from}
use Rattle.syn_lex.specs.Lines.{is_nil}
use Rattle.syn_aiger_files.specs.Cuts.{cut_at}
use Rattle.syn_aiger_files.specs.Files.{Header, Place, Symbol}
use Rattle.syn_aiger_files.specs.Symbols.{count_of, is_at, symbol_at}
use Rattle.syn_aiger_files.specs.Texts.{behind, front, number_of}
use Rattle.syn_aiger_files.proofs.Cutting.{behind_cut, front_cut, or_nothing}

nil_is : (l : List ℕ) → 0 < length l → is_nil l ≡ false
nil_is [] l = absurd (omega arith)
nil_is (x ∷ xs) l = refl

none_at : (h : Header) (ss : List Symbol) (place : Place) (o : Option ℕ) → symbol_at h ss (Some place) o [] ≡ None
none_at h ss place None = refl
none_at h ss place (Some index) = ap (λ (q : Bool). cond q (Some (record { place = place; index = index; name = [] })) None) (three (nat_lt index (count_of h place)) (not (list_any (is_at place index) ss)))
  where
    three : (x y : Bool) → (x && (y && false)) ≡ false
    three true true = refl
    three true false = refl
    three false y = refl

module _ (h : Header) (ss : List Symbol) (place : Place) (text word : List ℕ) (o : Option (List ℕ)) (f : word ≡ (cut_at 32 text).0) (g : o ≡ (cut_at 32 text).1) where
  names : (n : Option ℕ) (name : Option (List ℕ)) → n ≡ number_of word → o ≡ name → symbol_at h ss (Some place) (number_of (front 32 text)) (behind 32 text) ≡ symbol_at h ss (Some place) n (or_nothing name)
  names n name e k = ap₂ (λ (a : Option ℕ) (b : List ℕ). symbol_at h ss (Some place) a b) (ap number_of (front_cut 32 text ∙ sym f) ∙ sym e) (behind_cut 32 text ∙ ap or_nothing (sym g ∙ k))

  pub no_name : Path (Option (List ℕ)) o None → Path (Option Symbol) None (symbol_at h ss (Some place) (number_of (front 32 text)) (behind 32 text))
  no_name k = sym (names (number_of word) None refl k ∙ none_at h ss place (number_of word))

  module _ (name : List ℕ) (k : Path (Option (List ℕ)) o (Some name)) where
    pub no_index : Path (Option ℕ) None (number_of word) → Path (Option Symbol) None (symbol_at h ss (Some place) (number_of (front 32 text)) (behind 32 text))
    no_index e = sym (names None (Some name) e k)

    pub empty_name : (index : ℕ) → Path (Option ℕ) (Some index) (number_of word) → length name ≡ 0 → Path (Option Symbol) None (symbol_at h ss (Some place) (number_of (front 32 text)) (behind 32 text))
    empty_name index e l = sym (names (Some index) (Some name) e k ∙ ap (symbol_at h ss (Some place) (Some index)) (nil name l) ∙ none_at h ss place (Some index))
      where
        nil : (l : List ℕ) → length l ≡ 0 → l ≡ []
        nil [] e = refl
        nil (x ∷ xs) e = absurd (omega arith)

    module _ (index : ℕ) (e : Path (Option ℕ) (Some index) (number_of word)) where
      fails : (nat_lt index (count_of h place) && (not (list_any (is_at place index) ss) && not (is_nil name))) ≡ false → Path (Option Symbol) None (symbol_at h ss (Some place) (number_of (front 32 text)) (behind 32 text))
      fails q = sym (names (Some index) (Some name) e k ∙ cond-false (nat_lt index (count_of h place) && (not (list_any (is_at place index) ss) && not (is_nil name))) (Some (record { place = place; index = index; name = name })) None q)

      pub far_index : count_of h place ≤ index → Path (Option Symbol) None (symbol_at h ss (Some place) (number_of (front 32 text)) (behind 32 text))
      far_index l = fails (ap (λ (q : Bool). q && (not (list_any (is_at place index) ss) && not (is_nil name))) (le-ltb index (count_of h place) l))

      pub given_before : list_any (is_at place index) ss ≡ true → Path (Option Symbol) None (symbol_at h ss (Some place) (number_of (front 32 text)) (behind 32 text))
      given_before q = fails (ap (λ (y : Bool). nat_lt index (count_of h place) && (not y && not (is_nil name))) q ∙ last (nat_lt index (count_of h place)))
        where
          last : (x : Bool) → (x && false) ≡ false
          last true = refl
          last false = refl

      pub is_symbol : index < count_of h place → list_any (is_at place index) ss ≡ false → 0 < length name → Path (Option Symbol) (Some (record { place = place; index = index; name = name })) (symbol_at h ss (Some place) (number_of (front 32 text)) (behind 32 text))
      is_symbol l q some =
          sym (names (Some index) (Some name) e k
          ∙ cond-true (nat_lt index (count_of h place) && (not (list_any (is_at place index) ss) && not (is_nil name))) (Some (record { place = place; index = index; name = name })) None
          (and_from (nat_lt index (count_of h place)) (not (list_any (is_at place index) ss) && not (is_nil name)) (lt-ltb index (count_of h place) l)
          (and_from (not (list_any (is_at place index) ss)) (not (is_nil name)) (ap not q) (ap not (nil_is name some)))))

pub from_false : (b : Bool) → not b ≡ false → b ≡ true
from_false true e = refl
from_false false e = absurd (cc)

pub from_true : (b : Bool) → not b ≡ true → b ≡ false
from_true false e = refl
from_true true e = absurd (cc)
