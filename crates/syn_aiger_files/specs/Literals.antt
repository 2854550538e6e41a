-- Literals that follow one behind the other.
use Rattle.std.specs.Prelude.{ℕ, zero, suc, ◌+◌, ◌*◌, List, [], ◌∷◌}

-- so many plain literals, from a variable on
abbrev pub literals_from : ℕ → ℕ → List ℕ
literals_from variable zero = []
literals_from variable (suc count) = 2 * variable ∷ literals_from (variable + 1) count
