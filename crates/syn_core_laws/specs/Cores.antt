-- The state of the core as plain data.
use Rattle.std.specs.Prelude.{ℕ, ◌+◌, List, [], ◌∷◌, ℤ, pos, ◌+ℤ◌}
use Rattle.syn_rows.specs.declared.Row.{Row}
use Rattle.syn_rows.specs.declared.Lit.{Lit}
use Rattle.syn_rows.specs.References.{times}
use Rattle.syn_core_laws.specs.declared.View.{View}

-- node n has the entry at index n of each of the first four lists
pub record Core : Type 0 where
  -- 0, or the number of the seat that holds the node plus 1
  pub claims : List ℕ
  pub rows : List Row
  -- how often rows, observed literals and pins refer to the node
  pub counts : List ℕ
  -- numbers that rise along references
  pub keys : List ℕ
  -- the literals whose values are kept
  pub observed : List Lit
  -- the rows at the start
  pub opening : List Row
  -- what each seat knows
  pub seats : List View

-- all seats' pins of the node m
abbrev pub all_pins : ℕ → List View → ℕ
all_pins m [] = 0
all_pins m (v ∷ vs) = times m v.pins + all_pins m vs

-- the sum of the seats' differences
abbrev pub differences : List View → ℤ
differences [] = pos 0
differences (v ∷ vs) = v.difference +ℤ differences vs
