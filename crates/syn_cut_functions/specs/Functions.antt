-- The function of a node over a cut as a number.
use Rattle.std.specs.Prelude.{◌≡◌, ℕ, ◌<◌, ◌≤◌, ◌^◌, Bool, true, List, [], ◌∷◌, length, slice_index_or, take}
use Rattle.std.specs.List.{AllZip}
use Rattle.std.specs.Global.{Vec}
use Rattle.syn_rows.specs.declared.Row.{Row}
use Rattle.syn_rows.specs.Reach.{is_and}
use Rattle.syn_rows.specs.Rows.{row_at}
use Rattle.syn_rows.specs.Values.{value_in}
use Rattle.syn_truth.specs.declared.Truth.{Truth}
use Rattle.syn_npn.specs.Images.{number_of, value_at}
use Rattle.syn_library.specs.Library.{IsNumberOf}
use Rattle.syn_cones.specs.Cones.{IsTruthOver}
use Rattle.syn_cones.specs.Values.{values_over}
use Rattle.syn_cut_functions.specs.Cuts.{cuts_of}

-- the values of four variables at a minterm
abbrev pub bits_of : ℕ → List Bool
bits_of m = value_at m 0 ∷ value_at m 1 ∷ value_at m 2 ∷ value_at m 3 ∷ []

-- The function of a node over at most four leaves, as a function of four variables: its value at a minterm is that of the node where leaf i has the value of variable i. It doesn't depend on the variables behind the leaves.
unfoldable pub cut_function : List Row → List ℕ → ℕ → ℕ
cut_function rows leaves n = number_of 16 (λ m. value_in (values_over rows leaves (take (length leaves) (bits_of m))) n)

-- The number is that of a node's table over at most four leaves.
pub record IsFunctionOver (rows : List Row) (leaves : List ℕ) (node number : ℕ) : Type 0 where
  pub table : Truth
  pub truth : IsTruthOver rows leaves node table
  pub few : table.vars ≤ 4
  pub within : number < 2 ^ 16
  pub values : IsNumberOf number table

-- each number is the function of the node over the cut at its place
abbrev pub AreFunctionsOver : List Row → ℕ → List (List ℕ) → List ℕ → Type 0
AreFunctionsOver rows node cuts functions = AllZip (λ c f. IsFunctionOver rows c node f) cuts functions

-- the functions of each AND over its cuts
abbrev pub HaveFunctions : List Row → List (Vec ℕ) → Type 0
HaveFunctions rows functions = (node : ℕ) (d : Vec ℕ) → node < length functions → is_and (row_at rows node) ≡ true → AreFunctionsOver rows node (cuts_of rows node) (slice_index_or functions node d).items
