-- What a sink takes of two pieces, one after the other.
use Rattle.std.proofs.Common.{◌≡◌, ℕ, List, [], ◌++◌, sym, ap, ◌∙◌, subst, arith, Option, None, Some, IfSome}
use Rattle.std.specs.Option.{IsSomeAnd}
use Rattle.std.proofs.lemmas.List.{append_assoc, append-nil}
use Rattle.syn_io.specs.Outside.{GrewByPart, Screen}
use Rattle.syn_shell.specs.Outside.{Took, TookPart}

-- as facts on the optional contents alone

taken_twice : (s t u : Option (List ℕ)) (a b : List ℕ) → IfSome s (λ was. t ≡ Some (was ++ a)) → IfSome t (λ was. u ≡ Some (was ++ b)) → IfSome s (λ was. u ≡ Some (was ++ (a ++ b)))
taken_twice None t u a b h k = tt
taken_twice (Some was) t u a b h k =
    subst (λ (o : Option (List ℕ)). IfSome o (λ x. u ≡ Some (x ++ b))) h k ∙ ap (λ (l : List ℕ). Some l) (append_assoc was a b)

grew_more : (was now a b : List ℕ) → GrewByPart (was ++ a) b now → GrewByPart was (a ++ b) now
grew_more was now a b (part, rest, is, grew) =
    (a ++ part, rest, ap (λ (l : List ℕ). a ++ l) is ∙ sym (append_assoc a part rest), grew ∙ append_assoc was a part)

grew_less : (was now a b : List ℕ) → GrewByPart was a now → GrewByPart was (a ++ b) now
grew_less was now a b (part, rest, is, grew) = (part, rest ++ b, ap (λ (l : List ℕ). l ++ b) is ∙ append_assoc part rest b, grew)

some_and : (u : Option (List ℕ)) (P Q : List ℕ → Type 0) → ((x : List ℕ) → P x → Q x) → IsSomeAnd u P → IsSomeAnd u Q
some_and None P Q f h = h
some_and (Some x) P Q f h = f x h

taken_in_part : (s t u : Option (List ℕ)) (a b : List ℕ) → IfSome s (λ was. t ≡ Some (was ++ a)) → IfSome t (λ was. IsSomeAnd u (GrewByPart was b)) → IfSome s (λ was. IsSomeAnd u (GrewByPart was (a ++ b)))
taken_in_part None t u a b h k = tt
taken_in_part (Some was) t u a b h k = some_and u (GrewByPart (was ++ a) b) (GrewByPart was (a ++ b)) (λ x. grew_more was x a b) (subst (λ (o : Option (List ℕ)). IfSome o (λ x. IsSomeAnd u (GrewByPart x b))) h k)

part_of_first : (s t : Option (List ℕ)) (a b : List ℕ) → IfSome s (λ was. IsSomeAnd t (GrewByPart was a)) → IfSome s (λ was. IsSomeAnd t (GrewByPart was (a ++ b)))
part_of_first None t a b h = tt
part_of_first (Some was) t a b h = some_and t (GrewByPart was a) (GrewByPart was (a ++ b)) (λ x. grew_less was x a b) h

pub took_both : (a b : List ℕ) (s t u : Screen) → Took a s t → Took b t u → Took (a ++ b) s u
took_both a b s t u h k = record { told = taken_twice s.told t.told u.told a b h.told k.told; later = omega (arith, h.later, k.later) }

pub took_part : (a b : List ℕ) (s t u : Screen) → Took a s t → TookPart b t u → TookPart (a ++ b) s u
took_part a b s t u h k = record { told = taken_in_part s.told t.told u.told a b h.told k.told; failed = omega (arith, h.later, k.failed); later = omega (arith, h.later, k.later) }

pub took_less : (a b : List ℕ) (s t : Screen) → TookPart a s t → TookPart (a ++ b) s t
took_less a b s t h = record { told = part_of_first s.told t.told a b h.told; failed = h.failed; later = h.later }

nothing_taken : (s : Option (List ℕ)) → IfSome s (λ was. s ≡ Some (was ++ []))
nothing_taken None = tt
nothing_taken (Some was) = ap (λ (l : List ℕ). Some l) (sym (append-nil was))

pub took_nothing : (s : Screen) → Took [] s s
took_nothing s = record { told = nothing_taken s.told; later = omega arith }
