use Rattle.std.proofs.Common.{◌≡◌, ◌+◌, ◌++◌, ℕ, List, true, map, take}
use Rattle.syn_lists.specs.Numbers.{distinct_numbers}
use Rattle.syn_aiger.specs.Values.{and_variable}
use Rattle.syn_aiger.specs.Placing.{HasPlaces}
use Rattle.syn_aiger.proofs.file_numbers.place_ands.Given as goal

abbrev pub invariant-loop-a : goal.invariant-loop-a
invariant-loop-a l = record {
  count : l.places.count ≡ l.initial.places.count + l.a-index;
  has : (known : List ℕ) → HasPlaces l.initial.places known → distinct_numbers (known ++ map and_variable l.ands) ≡ true → HasPlaces l.places (known ++ map and_variable (take l.a-index l.ands));
}
