-- There are no more observed signals than names.
use Rattle.std.proofs.Common.{◌≡◌, ℕ, ◌≤◌, true, false, List, [], ◌∷◌, length, flat_map, bytes_eq, ap, ◌++◌, ◌∙◌, nat_lt, refl, subst, arith}
use Rattle.std.proofs.lemmas.Bool.{and_parts, or_from, both_ways, false_from_ne_true, true_from_ne_false, ltb-true}
use Rattle.std.proofs.lemmas.List.{length-map}
use Rattle.syn_netlist.specs.declared.frames.Frame as code
use Rattle.syn_netlist.specs.Frames.{frame_in}
use Rattle.syn_netlist.specs.Lists.{Frame, latch_reads, observed}
use Rattle.syn_netlist.specs.Marks.{observed_numbers}
use Rattle.syn_netlist.specs.Numbers.{word_at, words_at, all_below}
use Rattle.syn_netlist.specs.Words.{has_word, distinct}
use Rattle.syn_netlist.proofs.Sets.{same_word}
use Rattle.syn_netlist.proofs.Places.{observed_below, words_at-observed}
use Rattle.syn_network.proofs.Ends.{firsts_distinct}
use Rattle.syn_network.proofs.Gates.{has_at}
use Rattle.syn_network.proofs.Inner.{no_more}

-- a word that is no name is in no set of names
pub not_there : (names : List (List ℕ)) (numbers : List ℕ) (word : List ℕ) → all_below (length names) numbers ≡ true → has_word names word ≡ false → has_word (words_at names numbers) word ≡ false
not_there names [] word below none = refl
not_there names (i ∷ is) word below none =
    let parts = and_parts (nat_lt i (length names)) (all_below (length names) is) below in
    or_from (bytes_eq (word_at names i) word) (has_word (words_at names is) word)
    (false_from_ne_true (bytes_eq (word_at names i) word) (λ e. both_ways (has_word names word) none (subst (λ k. has_word names k ≡ true) (same_word (word_at names i) word e) (has_at names i (ltb-true i (length names) parts.0)))))
    (not_there names is word parts.1 none)

pub few_signals : (frame : Frame) (old : List (List ℕ)) (signals : List ℕ) → words_at old signals ≡ observed frame → all_below (length old) signals ≡ true → length signals ≤ length old
few_signals frame old signals e below =
    let fewer = no_more (observed frame) old (firsts_distinct (frame.outputs ++ flat_map latch_reads frame.latches))
    (λ w h. true_from_ne_false (has_word old w) (λ none. both_ways (has_word (words_at old signals) w) (not_there old signals w below none) (ap (λ (ws : List (List ℕ)). has_word ws w) e ∙ h))) in
    omega (arith, fewer, ap (λ (ws : List (List ℕ)). length ws) e, length-map signals (word_at old))

pub few_observed : (f : code.Frame) → distinct f.names ≡ true → length (observed (frame_in f)) ≤ length f.names
few_observed f d =
    let numbers = observed_numbers f.outputs f.latches in
    let words : words_at f.names numbers ≡ observed (frame_in f) = words_at-observed f.names f.model f.inputs f.clocks f.outputs f.latches d f.outputs_below f.latches_below in
    omega (
      arith,
      few_signals (frame_in f) f.names numbers words (observed_below (length f.names) f.outputs f.latches f.outputs_below f.latches_below),
      ap (λ (ws : List (List ℕ)). length ws) words,
      length-map numbers (word_at f.names),
    )
