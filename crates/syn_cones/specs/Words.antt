-- Words of 64 bits as functions over at most six leaves: bit m is the value where the leaves have the values of minterm m.
use Rattle.std.specs.Prelude.{◌≡◌, ℕ, Bool, List, length, map}
use Rattle.syn_rows.specs.declared.Row.{Row}
use Rattle.syn_truth.specs.Truth.{AtEach}
use Rattle.syn_truth.specs.Words.{value_in}
use Rattle.syn_cones.specs.Cones.{FitsBetween}

-- The word is the function of a node over the leaves: for each choice of their values its value is that of the node in every valuation that fits the rows between the node and them.
abbrev pub IsWordOver : List Row → List ℕ → ℕ → ℕ → Type 0
IsWordOver rows leaves node word = AtEach (length leaves) (λ xs. (v : ℕ → Bool) → FitsBetween rows leaves node v → map v leaves ≡ xs → v node ≡ value_in word xs)
