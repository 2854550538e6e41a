-- Worked keys, of a = 1, b = 2, c = 3, 4 = And(2, 4), 5 = And(2, 6), 6 = And(9, 11).
use Rattle.std.specs.Prelude.{◌≡◌, ℕ, List, [], ◌∷◌}
use Rattle.syn_rows.specs.declared.Row.{Row}
use Rattle.syn_rows.specs.declared.Row.TheVariants.{Source, And}
use Rattle.syn_table.specs.Keys.{spread_of}

abbrev pub and : ℕ → ℕ → Row
and a b = And (record { 0 = a }) (record { 0 = b })

abbrev pub worked : List Row
worked = Source ∷ Source ∷ Source ∷ Source ∷ and 2 4 ∷ and 2 6 ∷ and 9 11 ∷ []

abbrev pub Worked : Type 0
Worked = spread_of worked ≡ 0 ∷ 0 ∷ 0 ∷ 0 ∷ 4294967296 ∷ 4294967296 ∷ 8589934592 ∷ []
