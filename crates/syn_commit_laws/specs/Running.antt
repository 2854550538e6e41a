-- The events of one seat among those of all seats.
use Rattle.std.specs.Prelude.{◌≡◌, ◌==◌, ℕ, if◌then◌else◌, Bool, List, [], ◌∷◌}
use mathlib.Core.Option.{some}
use lib.ListN.{get_elem?}
use Rattle.syn_core_laws.specs.declared.View.{View}
use Rattle.syn_core_laws.specs.declared.Event.{Event}
use Rattle.syn_core_laws.specs.declared.EventKind.{EventKind}
use Rattle.syn_core_laws.specs.Cores.{Core}
use Rattle.syn_core_laws.specs.Runs.{Steps}
use Rattle.syn_commit_laws.specs.Turning.{Commits}

-- the events of the seat
abbrev pub own : ℕ → List Event → List EventKind
own id [] = []
own id (e ∷ es) = if e.seat == id then e.kind ∷ own id es else own id es

-- events of all seats, in which those of the seat id are events of a commit
abbrev pub CommitsAlong : ℕ → ℕ → (ℕ → Bool) → Core → List Event → Core → Type 0
CommitsAlong id root dying c [] d = d ≡ c
CommitsAlong id root dying c (e ∷ es) d =
    (next : Core) × Steps c e next × (e.seat ≡ id → (v : View) → get_elem? c.seats id ≡ some v → Commits root dying v e.kind) × CommitsAlong id root dying next es d
