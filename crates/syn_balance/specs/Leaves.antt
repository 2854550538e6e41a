-- Leaves: literals of the new rows whose AND stands for a literal of the old ones.
use Rattle.std.specs.Prelude.{◌≡◌, ℕ, ◌*◌, ◌^◌, ◌<◌, ◌≤◌, ◌-◌, ◌⊎◌, Bool, false, All, List, [], ◌∷◌, ◌++◌, length, set, slice_index_or, Option, Some, None}
use Rattle.std.specs.List.{list_all, sum_by}
use Rattle.syn_rows.specs.declared.Lit.{Lit}
use Rattle.syn_rows.specs.declared.Row.{Row}
use Rattle.syn_rows.specs.Rows.{node_of}
use Rattle.syn_hashed.specs.Growing.{value_by, level_by}
use Rattle.syn_hashed.specs.Visiting.{literal_of}

-- the weight of a literal: 2 to the power of its level
abbrev pub weight : List Row → Lit → ℕ
weight rows l = 2 ^ level_by rows l

-- Leaves stand for a literal: their AND has its value for all given values, and they fit under its level. Leaves are those of some tree of ANDs that is so high exactly where their weights sum up to at most 2 to the power of that height.
pub record StandFor (old new : List Row) (lit : Lit) (leaves : List Lit) : Type 0 where
  pub some : 0 < length leaves
  pub there : All (λ l. node_of l < length new) leaves
  pub value : (given : ℕ → Bool) → given 0 ≡ false → list_all (value_by given new) leaves ≡ value_by given old lit
  pub fits : sum_by (weight new) leaves ≤ 2 ^ level_by old lit

-- the plain literal of a node
abbrev pub plain : ℕ → Lit
plain n = record { 0 = 2 * n }

-- the leaves that wait at a node
abbrev pub waiting_at : List (List Lit) → ℕ → List Lit
waiting_at waiting n = slice_index_or waiting n []

-- the leaves of a literal: the one that stands for it, or those that wait at its node
abbrev pub leaves_where : Option Lit → List Lit → List Lit
leaves_where None leaves = leaves
leaves_where (Some l) leaves = l ∷ []

abbrev pub leaves_of : List (Option Lit) → List (List Lit) → Lit → List Lit
leaves_of literals waiting lit = leaves_where (literal_of literals lit) (waiting_at waiting (node_of lit))

-- what waits after they were taken
abbrev pub left_where : Option Lit → List (List Lit) → ℕ → List (List Lit)
left_where None waiting n = set waiting n []
left_where (Some l) waiting n = waiting

abbrev pub left_by : List (Option Lit) → List (List Lit) → Lit → List (List Lit)
left_by literals waiting lit = left_where (literal_of literals lit) waiting (node_of lit)

-- how many ANDs join so many leaves
abbrev pub joins_of : List Lit → ℕ
joins_of leaves = length leaves - 1

-- the leaves of both fan-ins, taken one after the other
pub record TakesBoth (literals : List (Option Lit)) (waiting : List (List Lit)) (a b : Lit) (leaves : List Lit) (left : List (List Lit)) : Type 0 where
  pub joined : (leaves ≡ leaves_of literals waiting a ++ leaves_of literals (left_by literals waiting a) b) ⊎ (leaves ≡ leaves_of literals (left_by literals waiting a) b ++ leaves_of literals waiting a)
  pub others : left ≡ left_by literals (left_by literals waiting a) b
