use Rattle.std.proofs.Common.{◌≡◌, ◌+◌, ◌++◌, ℕ, List, true, map, take}
use Rattle.syn_lists.specs.Numbers.{distinct_numbers}
use Rattle.syn_aiger_files.specs.Files.{latch_literal, variable_of}
use Rattle.syn_aiger.specs.Placing.{HasPlaces}
use Rattle.syn_aiger.proofs.file_numbers.place_latches.Given as goal

abbrev pub invariant-loop-latch : goal.invariant-loop-latch
invariant-loop-latch l = record {
  count : l.places.count ≡ l.initial.places.count + l.latch-index;
  has : (known : List ℕ) → HasPlaces l.initial.places known → distinct_numbers (known ++ map variable_of (map latch_literal l.latches)) ≡ true → HasPlaces l.places (known ++ map variable_of (map latch_literal (take l.latch-index l.latches)));
}
