-- Conjunctions: literals that are joined by AND, and what they are to a node.
use Rattle.std.specs.Prelude.{◌≡◌, ℕ, ◌<◌, ◌&&◌, Bool, false, All, List, length}
use Rattle.std.specs.List.{list_all}
use Rattle.syn_rows.specs.declared.Lit.{Lit}
use Rattle.syn_rows.specs.declared.Row.{Row}
use Rattle.syn_rows.specs.Rows.{node_of}
use Rattle.syn_rows.specs.Values.{value_in, values_of}
use Rattle.syn_hashed.specs.Growing.{value_by}

-- each of the literals names a row that is there
abbrev pub AreThere : List Row → List Lit → Type 0
AreThere rows lits = All (λ l. node_of l < length rows) lits

-- Literals of smaller nodes have the AND of a node: whatever the sources have, all are true exactly where the node is.
pub record IsConjunction (rows : List Row) (n : ℕ) (lits : List Lit) : Type 0 where
  pub before : All (λ l. node_of l < n) lits
  pub value : (given : ℕ → Bool) → given 0 ≡ false → list_all (value_by given rows) lits ≡ value_in (values_of given rows) n

-- The same of two lists together: literals that wait, and leaves that were found.
pub record AreLeaves (rows : List Row) (n : ℕ) (waiting found : List Lit) : Type 0 where
  pub first : All (λ l. node_of l < n) waiting
  pub second : All (λ l. node_of l < n) found
  pub value : (given : ℕ → Bool) → given 0 ≡ false → (list_all (value_by given rows) waiting && list_all (value_by given rows) found) ≡ value_in (values_of given rows) n

-- literals of new rows have the AND that others had by the old ones
abbrev pub SameAll : List Row → List Lit → List Row → List Lit → Type 0
SameAll old before new after = (given : ℕ → Bool) → given 0 ≡ false → list_all (value_by given new) after ≡ list_all (value_by given old) before

-- a literal of new rows has the value of the AND that others had by the old ones
abbrev pub IsAll : List Row → List Lit → List Row → Lit → Type 0
IsAll old lits new l = (given : ℕ → Bool) → given 0 ≡ false → value_by given new l ≡ list_all (value_by given old) lits
