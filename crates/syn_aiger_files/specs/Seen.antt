-- Sets of numbers, and the literals and symbols that they stand for.
use Rattle.std.specs.Prelude.{ℕ, ◌≡◌, ◌+◌, ◌*◌, ◌||◌, nat_lt, nat_eq, Bool, List}
use Rattle.std.specs.List.{list_any}
use Rattle.std.specs.HashSet.{contains}
use Rattle.syn_lists.specs.Numbers.{has_number}
use Rattle.syn_aiger_files.specs.declared.sets.NumberSet.{NumberSet}
use Rattle.syn_aiger_files.specs.declared.symbols.Given.{Given}
use Rattle.syn_aiger_files.specs.Files.{OfInput, OfLatch, OfOutput, OfBad, OfConstraint, Place, Symbol}
use Rattle.syn_aiger_files.specs.Symbols.{is_at}

-- a number is in the set
abbrev pub holds : NumberSet → ℕ → Bool
holds s n = nat_lt n s.run || contains nat_eq s.others n

-- The set has the number n exactly where the literal 2 n + 2 is listed.
abbrev pub AreSeen : NumberSet → List ℕ → Type 0
AreSeen s literals = (n : ℕ) → holds s n ≡ has_number literals (2 * n + 2)

-- the set of a place
abbrev pub set_of : Given → Place → NumberSet
set_of g OfInput = g.inputs
set_of g OfLatch = g.latches
set_of g OfOutput = g.outputs
set_of g OfBad = g.bad
set_of g OfConstraint = g.constraints

-- The sets have exactly the places and indices of the symbols.
abbrev pub AreGiven : Given → List Symbol → Type 0
AreGiven g symbols = (place : Place) (n : ℕ) → holds (set_of g place) n ≡ list_any (is_at place n) symbols
