-- A commit behind its stores: it gives back, and what its counts found dying is freed.
use Rattle.std.specs.Prelude.{◌≡◌, ℕ, ◌+◌, ◌<◌, Bool, List, [], ◌∷◌, ◌++◌, Some, pos, ◌+ℤ◌}
use Rattle.syn_rows.specs.declared.Row.{Row}
use Rattle.syn_rows.specs.References.{and_count}
use Rattle.syn_core_laws.specs.declared.View.{View}
use Rattle.syn_core_laws.specs.declared.Change.{Change}
use Rattle.syn_core_laws.specs.Views.{known_row}
use Rattle.syn_commit_laws.specs.Dying.{AreDoomed, ands_in}
use Rattle.syn_commit_laws.specs.Freeing.{IsFreeing, late, redefines}
use Rattle.syn_commit_laws.specs.Turning.{Spares}
use Rattle.syn_decide.specs.declared.decisions.NodeRow.{NodeRow}
use Rattle.syn_decide.specs.Fold.{State, placed_now}
use Rattle.syn_decide.specs.Hints.{new_root_row}
use Rattle.syn_decide.specs.Tasks.{Task}
use Rattle.syn_decide.specs.Walk.{nodes_of}
use Rattle.syn_commit_laws.specs.Redefining.{row_made}

-- the change that gives the root its new row
abbrev pub root_change : ℕ → Row → Row → Change
root_change root old new = record { node = root; old = old; new = new }

-- the root's new row as it is stored, where new gates have these nodes
abbrev pub new_row : Task → State → List NodeRow → Row
new_row t s made = row_made (nodes_of made) (new_root_row t (placed_now t s))

-- Since the counts so many rows were made and the root was redefined, and nothing was freed. The dying rows are doomed, the root's new row refers to none of them, and the ANDs that die,
-- with the old row, are as many as those that came, with the new row, and the gain.
pub record HasStored (nodes root : ℕ) (dying : ℕ → Bool) (counted : View) (old new : Row) (made gain : ℕ) (v : View) : Type 0 where
  pub doomed : AreDoomed nodes root dying counted
  pub freeing : IsFreeing nodes root dying counted made (root_change root old new ∷ []) v
  pub root_row : known_row v root ≡ Some new
  pub spared : Spares dying new
  pub first : redefines (root_change root old new ∷ []) ≡ root_change root old new ∷ []
  pub ands : and_count old + ands_in nodes counted dying ≡ made + and_count new + gain

-- Since the counts exactly one row was redefined, the root's, and the difference fell by exactly the gain and the late ANDs.
abbrev pub FellByGain : ℕ → (ℕ → Bool) → View → Row → Row → ℕ → View → Type 0
FellByGain root dying counted old new gain v =
    (changes : List Change) × (v.changes ≡ counted.changes ++ changes) × (redefines changes ≡ root_change root old new ∷ []) × (v.difference +ℤ pos (gain + late dying changes) ≡ counted.difference)
