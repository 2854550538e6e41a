-- What ties the function of a node over a cut to the node's table.
use Rattle.std.specs.Prelude.{◌≡◌, ℕ, ◌<◌, true, List, length}
use Rattle.syn_rows.specs.declared.Row.{Row}
use Rattle.syn_rows.specs.Rows.{InOrder}
use Rattle.syn_cones.specs.Leaves.{are_below, rise_above}
use Rattle.syn_cut_functions.specs.Functions.{IsFunctionOver, cut_function}

-- The number of a node's table over rising leaves below it is the node's function.
abbrev pub FunctionOfTable : Type 0
FunctionOfTable = (rows : List Row) (leaves : List ℕ) (node number : ℕ)
    → InOrder rows → node < length rows → rise_above 0 leaves ≡ true → are_below node leaves ≡ true
    → IsFunctionOver rows leaves node number → number ≡ cut_function rows leaves node
