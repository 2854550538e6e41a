-- Names that are copied one after the other.
use Rattle.std.proofs.Common.{◌≡◌, ℕ, zero, suc, ◌+◌, ◌<◌, not, true, false, List, [], ◌∷◌, ◌++◌, length, take, bytes_eq, sym, ap, ◌∙◌, subst, refl, arith}
use Rattle.std.proofs.lemmas.Bool.{and_parts, or_from, both_ways, false_from_ne_true, cond-false}
use Rattle.std.proofs.lemmas.List.{take_more}
use Rattle.syn_netlist.specs.Numbers.{word_at, with_word}
use Rattle.syn_netlist.specs.Words.{has_word, distinct}
use Rattle.syn_netlist.proofs.Sets.{same_word, distinct_head}
use Rattle.syn_network.proofs.Gates.{has_at}

not_before : (names : List (List ℕ)) (i : ℕ) → distinct names ≡ true → i < length names → has_word (take i names) (word_at names i) ≡ false
not_before names zero once lt = refl
not_before [] (suc i) once lt = absurd (omega (arith, lt))
not_before (w ∷ ws) (suc i) once lt =
    or_from (bytes_eq w (word_at ws i)) (has_word (take i ws) (word_at ws i))
    (false_from_ne_true (bytes_eq w (word_at ws i)) (λ e. both_ways (has_word ws w) (distinct_head w ws once) (subst (λ k. has_word ws k ≡ true) (sym (same_word w (word_at ws i) e)) (has_at ws i (omega (arith, lt))))))
    (not_before ws i (and_parts (not (has_word ws w)) (distinct ws) once).1 (omega (arith, lt)))

-- the next of distinct names is new among those before it
pub copied_more : (names copy : List (List ℕ)) (i : ℕ) → distinct names ≡ true → i < length names → copy ≡ take i names → with_word copy (word_at names i) ≡ take (i + 1) names
copied_more names copy i once lt e =
    ap (λ (l : List (List ℕ)). with_word l (word_at names i)) e
    ∙ cond-false (has_word (take i names) (word_at names i)) (take i names) (take i names ++ word_at names i ∷ []) (not_before names i once lt)
    ∙ sym (take_more names i [] lt)
