-- The steps by which the images of a function are walked.
use Rattle.std.specs.Prelude.{ℕ, ◌+◌, ◌==◌, if◌then◌else◌, slice_index_or}
use Rattle.syn_npn.specs.declared.walk.TheConstants.{EXCHANGES, WALK}
use Rattle.syn_npn.specs.Images.{differ, number_of, value_at}

-- the minterm in which variables i and i + 1 are exchanged
unfoldable pub exchange : ℕ → ℕ → ℕ
exchange i minterm = number_of 4 (λ j. value_at minterm (if j == i then i + 1 else (if j == i + 1 then i else j)))

-- the minterm in which variable i is complemented
unfoldable pub toggle : ℕ → ℕ → ℕ
toggle i minterm = number_of 4 (λ j. differ (j == i) (value_at minterm j))

-- the place of the permutation at a turn of the walk
unfoldable pub walk_at : ℕ → ℕ
walk_at turn = slice_index_or WALK turn 0

-- the lower variable that is exchanged after a turn
unfoldable pub exchange_at : ℕ → ℕ
exchange_at turn = slice_index_or EXCHANGES turn 0
