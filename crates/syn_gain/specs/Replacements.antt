-- Proposals as data, and the rows that one makes of a graph's.
use Rattle.std.specs.Prelude.{ℕ, ℤ, pos, ◌≤ℤ◌, Bool, false, List, length, slice_index_or}
use Rattle.syn_rows.specs.declared.Lit.{Lit}
use Rattle.syn_rows.specs.declared.Row.{Row}
use Rattle.syn_plan.specs.declared.PLit.{PLit}
use Rattle.syn_fanout_free.specs.Saved.{replaced, IsSaved}
use Rattle.syn_gain.specs.Placing.{Placed, each_below, literal_for, placed, root_row}

-- A plan in place of the row of a root: the nodes that its leaves stand for, how many leaves it has, its gates and its output.
pub record Replacement : Type 0 where
  pub root : ℕ
  pub leaves : List ℕ
  pub count : ℕ
  pub gates : List (PLit × PLit)
  pub out : PLit

-- the values of a plan's leaves, of which there are so many, false where the list has fewer
abbrev pub leaf_values : ℕ → List Bool → List Bool
leaf_values count values = each_below count (λ i. slice_index_or values i false)

-- what its plan becomes
abbrev pub placed_by : List Row → Replacement → Placed
placed_by rows r = placed rows r.root r.count r.leaves r.gates

-- the new rows
abbrev pub new_rows_by : List Row → Replacement → List Row
new_rows_by rows r = (placed_by rows r).extra

-- the new row of the root
abbrev pub new_root_by : List Row → Replacement → Row
new_root_by rows r = root_row (length rows) (new_rows_by rows r) (literal_for (placed_by rows r).literals r.out)

-- the rows afterwards: the root's row replaced, and the new rows at the end
abbrev pub rows_after_by : List Row → Replacement → List Row
rows_after_by rows r = replaced rows r.root (new_root_by rows r) (new_rows_by rows r)

-- s is what it saves: the ANDs that are reached before, less those afterwards
abbrev pub SavedBy : List Row → List Lit → Replacement → ℤ → Type 0
SavedBy rows observed r s = IsSaved rows (rows_after_by rows r) observed s

-- what it saves is at most 0
unfoldable pub SavesNothing : List Row → List Lit → Replacement → Type 0
SavesNothing rows observed r = (s : ℤ) × SavedBy rows observed r s × (s ≤ℤ pos 0)

-- what it saves is at least 1
unfoldable pub SavesSome : List Row → List Lit → Replacement → Type 0
SavesSome rows observed r = (s : ℤ) × SavedBy rows observed r s × (pos 1 ≤ℤ s)
