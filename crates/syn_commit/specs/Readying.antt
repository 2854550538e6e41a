-- Before the root is redefined: rows are made for the new gates, and the root's new row is one that a redefine may store.
use Rattle.std.specs.Prelude.{◌≡◌, ◌≢◌, ℕ, ◌+◌, ◌*◌, ◌<◌, ◌≤◌, true, List, [], length, Some}
use Rattle.syn_rows.specs.declared.Row.{Row}
use Rattle.syn_rows.specs.declared.Row.TheVariants.{Free}
use Rattle.syn_rows.specs.Rows.{AllRefs, is_derived}
use Rattle.syn_core_laws.specs.declared.View.{View}
use Rattle.syn_core_laws.specs.SameValue.{SameValue}
use Rattle.syn_core_laws.specs.Views.{known_key, known_row}
use Rattle.syn_decide.specs.declared.decisions.NodeRow.{NodeRow}
use Rattle.syn_decide.specs.Fold.{State, placed_now}
use Rattle.syn_decide.specs.Hints.{rows_needed}
use Rattle.syn_decide.specs.Tasks.{Task}
use Rattle.syn_commit_laws.specs.Redefining.{met_leaves}
use Rattle.syn_commit.specs.Finishing.{new_row}
use Rattle.syn_commit.specs.Storing.{AreMade, KeepsKnown, MayReferTo, node_at}

-- Since the counts rows were made for the new gates that need one, in nodes that were free, with keys a step apart that stay below the root's.
pub record AreRowsMade (t : Task) (s : State) (step : ℕ) (made : List NodeRow) (counted w : View) : Type 0 where
  pub count : length made ≡ rows_needed t (placed_now t s)
  pub spare : (i : ℕ) → i < length made → known_row counted (node_at made i) ≡ Some Free
  pub positive : 1 ≤ step
  pub below : s.low + rows_needed t (placed_now t s) * step < s.high
  pub are_made : AreMade s.low step (placed_now t s).extra made w
  pub keeps : KeepsKnown counted w

-- The root may get its new row in place of this one: its key is known, the new row refers to nodes with keys below, and both rows have the same value over the leaves that the walk met.
pub record IsReadyFor (t : Task) (s : State) (made : List NodeRow) (old : Row) (w : View) : Type 0 where
  pub known : known_row w t.proposal.root ≡ Some old
  pub key : known_key w t.proposal.root ≡ Some s.high
  pub was : is_derived old ≡ true
  pub gate : is_derived (new_row t s made) ≡ true
  pub refers : AllRefs (MayReferTo w s.high) (new_row t s made)
  pub same : SameValue w (met_leaves t s.inner) old (new_row t s made)
