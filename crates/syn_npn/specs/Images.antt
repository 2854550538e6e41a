-- Images of a function of four variables. A function is a number below 65536: its bit m is its value at
-- the minterm m, and bit i of a minterm is the value of variable i.
use Rattle.std.specs.Prelude.{ℕ, suc, zero, ◌+◌, ◌^◌, ◌==◌, ◌&&◌, ◌||◌, if◌then◌else◌, Bool, true, false, not, List, [], ◌∷◌, length, nat_lt, slice_index}
use Rattle.std.specs.List.{list_all}
use Rattle.std.specs.Int.{bit_at}

-- the value of a function at a minterm
abbrev pub value_at : ℕ → ℕ → Bool
value_at function minterm = bit_at function minterm == 1

-- exclusive or
abbrev pub differ : Bool → Bool → Bool
differ a b = if a then not b else b

-- the number whose bit i is set where the test holds, for each i below n
abbrev pub number_of : ℕ → (ℕ → Bool) → ℕ
number_of zero test = 0
number_of (suc n) test = number_of n test + (if test n then 2 ^ n else 0)

-- the number, or the function as a number, is in the list
abbrev pub has_function : ℕ → List ℕ → Bool
has_function n [] = false
has_function n (x ∷ xs) = n == x || has_function n xs

-- no number stands twice in the list
abbrev pub is_distinct : List ℕ → Bool
is_distinct [] = true
is_distinct (x ∷ xs) = not (has_function x xs) && is_distinct xs

-- four different numbers below 4
abbrev pub is_permutation : List ℕ → Bool
is_permutation perm = length perm == 4 && list_all (λ i. nat_lt i 4) perm && is_distinct perm

-- the place of a number in a list, or the list's length
abbrev pub place_in : List ℕ → ℕ → ℕ
place_in [] n = 0
place_in (x ∷ xs) n = if x == n then 0 else 1 + place_in xs n

-- the value of variable i where a transform reads the function: that of variable perm[i], complemented where
-- bit i of flips is set
abbrev pub value_read : List ℕ → ℕ → ℕ → ℕ → Bool
value_read perm flips minterm i = differ (value_at minterm (slice_index perm i)) (value_at flips i)

-- the minterm at which a transform reads the function, for a minterm of the image
unfoldable pub read_at : List ℕ → ℕ → ℕ → ℕ
read_at perm flips minterm = number_of 4 (value_read perm flips minterm)

-- the places of the variables 0 to 3 in a permutation
abbrev pub inverse : List ℕ → List ℕ
inverse perm = place_in perm 0 ∷ place_in perm 1 ∷ place_in perm 2 ∷ place_in perm 3 ∷ []

-- the flips at the places that a list names: bit j is bit back[j] of the flips
unfoldable pub moved : List ℕ → ℕ → ℕ
moved back flips = number_of 4 (λ j. value_at flips (slice_index back j))
