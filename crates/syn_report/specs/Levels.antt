-- What is told of levels: for each number that is among them, how many of them it is.
use Rattle.std.specs.Prelude.{ℕ, zero, suc, ◌+◌, ◌==◌, if◌then◌else◌, max, ◌++◌, List, [], ◌∷◌, codes, decimal}

-- the greatest number of a list, 0 where it is empty
abbrev pub greatest : List ℕ → ℕ
greatest [] = 0
greatest (n ∷ ns) = max n (greatest ns)

-- how many numbers of a list are this one
abbrev pub how_many : ℕ → List ℕ → ℕ
how_many n [] = 0
how_many n (m ∷ ms) = (if n == m then 1 else 0) + how_many n ms

-- the line of a level and how many lie at it, nothing where none does
abbrev pub level_line : ℕ → ℕ → List ℕ
level_line level count = if count == 0 then [] else (codes "level " ++ decimal level ++ codes ": " ++ decimal count ++ 10 ∷ [])

-- the lines of the levels below one, rising, where so many lie at each
abbrev pub lines_below : (ℕ → ℕ) → ℕ → List ℕ
lines_below count zero = []
lines_below count (suc level) = lines_below count level ++ level_line level (count level)

-- the lines of all levels that are among these, rising
abbrev pub levels_text : List ℕ → List ℕ
levels_text levels = lines_below (λ level. how_many level levels) (greatest levels + 1)
