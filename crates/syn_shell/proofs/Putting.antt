-- Texts put one after the other.
use Rattle.std.proofs.Common.{◌≡◌, ℕ, ◌+◌, ◌<◌, ◌≤◌, List, [], ◌∷◌, ◌++◌, length, get_or, drop, map, codes, decimal, sym, ap, ◌∙◌, subst, Result, Ok, Err}
use Rattle.std.specs.List.{flat_map}
use Rattle.std.proofs.lemmas.List.{append-nil, drop_more, drop_all}
use Rattle.syn_io.specs.declared.SinkFailed.{SinkFailed}
use Rattle.syn_shell.specs.Lines.{joined}
use Rattle.syn_io.specs.Outside.{Screen}
use Rattle.syn_shell.specs.Outside.{Took, TookPart, Puts}
use Rattle.syn_shell.proofs.Taking.{took_both, took_part, took_less}

-- a text was taken, and the rest is put
pub puts_next : (r : Result (Unit {0}) SinkFailed) (a b : List ℕ) (s t u : Screen) → Took a s t → Puts r b t u → Puts r (a ++ b) s u
puts_next (Ok done) a b s t u h k = took_both a b s t u h k
puts_next (Err e) a b s t u h k = took_part a b s t u h k

-- a first text was not taken whole
pub puts_first : (r : Result (Unit {0}) SinkFailed) (e : SinkFailed) (a b : List ℕ) (s t : Screen) → r ≡ Err e → TookPart a s t → Puts r (a ++ b) s t
puts_first r e a b s t is h = subst (λ (x : Result (Unit {0}) SinkFailed). Puts x (a ++ b) s t) (sym is) (took_less a b s t h)

-- another text that is the same
pub puts_same : (r : Result (Unit {0}) SinkFailed) (a b : List ℕ) (s t : Screen) → a ≡ b → Puts r a s t → Puts r b s t
puts_same r a b s t e h = subst (λ (x : List ℕ). Puts r x s t) e h

-- what is left to put of a list of texts, each an item's, by the item in the next place
pub left_next : {X : Type 0} (f : X → List ℕ) (xs : List X) (i : ℕ) (d : X) → i < length xs → f (get_or xs i d) ++ joined (map f (drop (i + 1) xs)) ≡ joined (map f (drop i xs))
left_next {X = X} f xs i d lt = sym (ap (λ (ys : List X). joined (map f ys)) (drop_more xs i d lt))

pub left_none : {X : Type 0} (f : X → List ℕ) (xs : List X) (i : ℕ) → length xs ≤ i → [] ≡ joined (map f (drop i xs))
left_none {X = X} f xs i le = sym (ap (λ (ys : List X). joined (map f ys)) (drop_all i xs le))

-- the same where the texts are the items' by one function
pub more_next : {X : Type 0} (f : X → List ℕ) (xs : List X) (i : ℕ) (d : X) → i < length xs → f (get_or xs i d) ++ flat_map f (drop (i + 1) xs) ≡ flat_map f (drop i xs)
more_next f xs i d lt = sym (ap (flat_map f) (drop_more xs i d lt))

pub more_none : {X : Type 0} (f : X → List ℕ) (xs : List X) (i : ℕ) → length xs ≤ i → [] ≡ flat_map f (drop i xs)
more_none f xs i le = sym (ap (flat_map f) (drop_all i xs le))

-- a name after one blank
pub spaced : (name x : List ℕ) → x ≡ name → joined (codes " " ∷ x ∷ []) ≡ codes " " ++ name
spaced name x is = ap (λ (l : List ℕ). codes " " ++ l) (append-nil x ∙ is)

-- a number after one blank
pub spaced_number : (number : ℕ) → joined (codes " " ∷ decimal number ∷ [] ∷ []) ≡ codes " " ++ decimal number
spaced_number number = ap (λ (l : List ℕ). codes " " ++ l) (append-nil (decimal number))
