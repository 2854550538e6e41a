-- The lists of sources and of observed signals by numbers of names, and marks by number.
use Rattle.std.specs.Prelude.{◌≡◌, ℕ, ◌<◌, ◌++◌, Bool, false, List, [], ◌∷◌, map, flat_map, length, slice_index_or}
use Rattle.syn_netlist.specs.declared.Latch.{Latch}
use Rattle.syn_netlist.specs.Kept.{control_number}
use Rattle.syn_lists.specs.Numbers.{has_number, without_numbers}

-- each number once, at its first place
abbrev pub first_numbers : List ℕ → List ℕ
first_numbers [] = []
first_numbers (n ∷ ns) = n ∷ without_numbers (n ∷ []) (first_numbers ns)

-- the number of the name that a latch defines
abbrev pub output_number : Latch → ℕ
output_number latch = latch.output

-- the numbers of what a latch reads: what it loads, and its control
abbrev pub read_numbers : Latch → List ℕ
read_numbers latch = latch.feed ∷ control_number latch.kind

-- the places that are marked are the numbers of the list
pub record AreMarks (numbers : List ℕ) (marks : List Bool) : Type 0 where
  pub at : (i : ℕ) → i < length marks → slice_index_or marks i false ≡ has_number numbers i

-- the numbers of the sources in order
abbrev pub source_numbers : List ℕ → List ℕ → List Latch → List ℕ
source_numbers inputs clocks latches = inputs ++ (without_numbers inputs clocks ++ map output_number latches)

-- the numbers of the observed signals in order
abbrev pub observed_numbers : List ℕ → List Latch → List ℕ
observed_numbers outputs latches = first_numbers (outputs ++ flat_map read_numbers latches)
