-- The number of an instance and the name there, read back from an inner name.
use Rattle.std.specs.Prelude.{ℕ, suc, ◌-◌, ◌&&◌, ◌||◌, nat_lt, not, if◌then◌else◌, Bool, false, List, [], ◌∷◌, map, drop, bytes_eq}
use Rattle.std.specs.Int.Digits.{number_from_digits}
use Rattle.std.specs.List.{list_any}
use Rattle.syn_models.specs.Models.{Bind, is_bound}
use Rattle.syn_models.specs.Walking.{Entry}

-- the byte of a decimal digit
abbrev pub is_digit : ℕ → Bool
is_digit b = nat_lt 47 b && nat_lt b 58

-- the digits in front, and what is behind them
abbrev pub front : List ℕ → List ℕ
front [] = []
front (b ∷ bs) = if is_digit b then b ∷ front bs else []

abbrev pub behind : List ℕ → List ℕ
behind [] = []
behind (b ∷ bs) = if is_digit b then behind bs else b ∷ bs

-- the digit of a byte
abbrev pub digit_in : ℕ → ℕ
digit_in b = b - 48

-- the number that a word begins with
abbrev pub number_in : List ℕ → ℕ
number_in name = number_from_digits 10 (map digit_in (front name))

-- what stands behind the number and so many slashes
abbrev pub name_in : ℕ → List ℕ → List ℕ
name_in count name = drop count (behind name)

-- whether the word is the inner name of this name, which isn't bound
abbrev pub is_inner : (List ℕ → List ℕ) → List Bind → List ℕ → List ℕ → Bool
is_inner inner binds word name = not (is_bound binds name) && bytes_eq word (inner name)

-- whether the word is an inner name that is used
abbrev pub taken_by : (ℕ → List ℕ → List ℕ) → ℕ → List Entry → List ℕ → Bool
taken_by inner next [] word = false
taken_by inner next (e ∷ es) word = list_any (is_inner (inner next) e.binds word) e.inside.names || taken_by inner (suc next) es word
