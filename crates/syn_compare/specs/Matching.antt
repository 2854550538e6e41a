-- Which names of two frames are matched, and the first that isn't.
use Rattle.std.specs.Prelude.{◌≡◌, ℕ, not, ◌++◌, List, map, find, Option, Some, None, ⊤}
use Rattle.syn_netlist.specs.Words.{has_word, without}
use Rattle.syn_netlist.specs.Lists.{Frame, latch_output}
use Rattle.syn_compare.specs.declared.answers.CompareFault.{CompareFault}
use Rattle.syn_compare.specs.declared.answers.CompareFault.TheVariants.{Input, Output, Latch, NoMemory}

-- the inputs, and the clocks that are no inputs
abbrev pub givens : Frame → List (List ℕ)
givens frame = frame.inputs ++ without frame.inputs frame.clocks

-- a latch's name is its output
abbrev pub latch_names : Frame → List (List ℕ)
latch_names frame = map latch_output frame.latches

-- the first of some words that isn't among others
abbrev pub lacked : List (List ℕ) → List (List ℕ) → Option (List ℕ)
lacked others words = find (λ w. not (has_word others w)) words

-- the first, else the second
abbrev pub or_else : Option (List ℕ) → Option (List ℕ) → Option (List ℕ)
or_else None other = other
or_else (Some word) other = Some word

-- the first word of one list that the other lacks, else the first of the other that the one lacks
abbrev pub unmatched : List (List ℕ) → List (List ℕ) → Option (List ℕ)
unmatched words others = or_else (lacked others words) (lacked words others)

-- The frames have the same names of inputs and clocks, of outputs, and of latches, in any order.
pub record AreMatched (first second : Frame) : Type 0 where
  pub givens_are : unmatched (givens first) (givens second) ≡ None
  pub outputs_are : unmatched first.outputs second.outputs ≡ None
  pub latches_are : unmatched (latch_names first) (latch_names second) ≡ None

-- the fault names the first of these names that isn't matched: of inputs and clocks, then of outputs, then of latches
abbrev pub IsFault : Frame → Frame → CompareFault → Type 0
IsFault first second (Input word) = unmatched (givens first) (givens second) ≡ Some word
IsFault first second (Output word) = (unmatched (givens first) (givens second) ≡ None) × (unmatched first.outputs second.outputs ≡ Some word)
IsFault first second (Latch word) = (unmatched (givens first) (givens second) ≡ None) × (unmatched first.outputs second.outputs ≡ None) × (unmatched (latch_names first) (latch_names second) ≡ Some word)
IsFault first second NoMemory = ⊤
