-- Lists of numbers as sets.
use Rattle.std.specs.Prelude.{◌&&◌, ◌+◌, ℕ, zero, suc, nat_eq, not, Bool, true, List, [], ◌∷◌, filter}
use Rattle.std.specs.List.{list_any}

-- the number is in the list
abbrev pub has_number : List ℕ → ℕ → Bool
has_number numbers i = list_any (λ n. nat_eq n i) numbers

-- no number stands twice in the list
abbrev pub distinct_numbers : List ℕ → Bool
distinct_numbers [] = true
distinct_numbers (n ∷ ns) = not (has_number ns n) && distinct_numbers ns

-- the numbers that are not in the first list, in their order
abbrev pub without_numbers : List ℕ → List ℕ → List ℕ
without_numbers others numbers = filter (λ n. not (has_number others n)) numbers

-- so many numbers from the first on
abbrev pub numbers_from : ℕ → ℕ → List ℕ
numbers_from first zero = []
numbers_from first (suc count) = first ∷ numbers_from (first + 1) count
