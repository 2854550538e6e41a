-- The numbers of seats.
use Rattle.std.specs.Prelude.{ℕ, zero, suc, List, [], ◌∷◌, ◌++◌}
use Rattle.syn_table.specs.declared.Known.{Known}

-- 0, 1, .., so many
abbrev pub numbers_below : ℕ → List ℕ
numbers_below zero = []
numbers_below (suc n) = numbers_below n ++ n ∷ []

-- the numbers of all seats, one seat's behind the other's
abbrev pub all_numbers : List Known → List ℕ
all_numbers [] = []
all_numbers (seat ∷ seats) = seat.numbers ++ all_numbers seats
