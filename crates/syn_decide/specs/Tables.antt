-- The table of the root by the inner rows, and what it is compared with.
use Rattle.std.specs.Prelude.{◌≡◌, ℕ, Bool, true, false, List, Option, Some, None}
use Rattle.syn_truth.specs.declared.Truth.{Truth}
use Rattle.syn_truth.specs.Truth.{AtEach, value_of}
use Rattle.syn_decide.specs.declared.decisions.NodeRow.{NodeRow}
use Rattle.syn_decide.specs.declared.decisions.Comparison.{Comparison}
use Rattle.syn_decide.specs.declared.decisions.Comparison.TheVariants.{Circle, Same, Differs}
use Rattle.syn_decide.specs.Tasks.{Task}
use Rattle.syn_decide.specs.Functions.{in_circle, is_same_function, now_table, table_of, was_table}
use Rattle.syn_decide.specs.Words.{value_after}

-- the value of a table where the variables have these values, if there is a table
abbrev pub value_in : List Bool → Option Truth → Option Bool
value_in xs None = None
value_in xs (Some t) = Some (value_of t xs)

-- a table of so many variables, if there is one
abbrev pub HasVars : ℕ → Option Truth → Type 0
HasVars vars None = Unit {0}
HasVars vars (Some t) = t.vars ≡ vars

-- the table of a node by so many rows
pub record IsNodeTable (vars : ℕ) (leaves : List ℕ) (inner : List NodeRow) (steps n : ℕ) (table : Option Truth) : Type 0 where
  pub values : AtEach vars (λ xs. value_in xs table ≡ value_after inner leaves xs steps n)

-- A comparison says what the definition says.
abbrev pub IsCompared : Task → List NodeRow → Comparison → Type 0
IsCompared t inner Circle = in_circle t inner ≡ true
IsCompared t inner Same = (in_circle t inner ≡ false) × (is_same_function t inner ≡ true)
IsCompared t inner (Differs was now) = (in_circle t inner ≡ false) × (is_same_function t inner ≡ false)
    × (table_of was.vars (value_of was) ≡ was_table t) × (table_of now.vars (value_of now) ≡ now_table t inner)
