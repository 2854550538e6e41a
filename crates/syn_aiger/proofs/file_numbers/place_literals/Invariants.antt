use Rattle.std.proofs.Common.{◌≡◌, ◌+◌, ◌++◌, ℕ, List, true, map, take}
use Rattle.syn_lists.specs.Numbers.{distinct_numbers}
use Rattle.syn_aiger_files.specs.Files.{variable_of}
use Rattle.syn_aiger.specs.Placing.{HasPlaces}
use Rattle.syn_aiger.proofs.file_numbers.place_literals.Given as goal

abbrev pub invariant-loop-l : goal.invariant-loop-l
invariant-loop-l l = record {
  count : l.places.count ≡ l.initial.places.count + l.l-index;
  has : (known : List ℕ) → HasPlaces l.initial.places known → distinct_numbers (known ++ map variable_of l.literals) ≡ true → HasPlaces l.places (known ++ map variable_of (take l.l-index l.literals));
}
