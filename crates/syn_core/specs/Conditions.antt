-- The conditions as tests.
use Rattle.std.specs.Prelude.{◌≡◌, ℕ, ◌==◌, ◌||◌, ◌&&◌, ◌<◌, ◌↔◌, length, nat_lt, nat_le, Bool, true, false, List, [], ◌∷◌, Option, Some, None}
use Rattle.syn_rows.specs.declared.Row.{Row}
use Rattle.syn_rows.specs.declared.Row.TheVariants.{Free, Source, And, Alias}
use Rattle.syn_rows.specs.Rows.{node_of}
use Rattle.syn_core_laws.specs.declared.EventKind.{EventKind}
use Rattle.syn_core_laws.specs.Cores.{Core}
use Rattle.syn_core_laws.specs.Events.{event_node, May, Allowed, after}
use Rattle.syn_core_laws.specs.Openings.{view_at}
use Rattle.syn_rows.specs.References.{refs, times}

-- a row that is known refers to the node; each refers to node 0
abbrev pub refers_by : ℕ → Option Row → Bool
refers_by n None = false
refers_by n (Some r) = (n == 0) || nat_lt 0 (refs n r)

-- some node of which a row is told passes the test
abbrev pub any_node : (ℕ → Bool) → List (ℕ × Row) → Bool
any_node p [] = false
any_node p (x ∷ xs) = p x.0 || any_node p xs

-- there is a pin for each place of the row
abbrev pub is_served : List ℕ → Row → Bool
is_served pins Free = true
is_served pins Source = true
is_served pins (And a b) = nat_le (refs (node_of a) (And a b)) (times (node_of a) pins) && nat_le (refs (node_of b) (And a b)) (times (node_of b) pins)
is_served pins (Alias a) = nat_le 1 (times (node_of a) pins)

-- the event's own condition, at the seat's place
abbrev pub MayAt : Core → ℕ → EventKind → Type 0
MayAt c id event = May c (view_at c id) event

-- the event's own condition holds, and the second state is the one after it
abbrev pub Does : Core → ℕ → EventKind → Core → Type 0
Does c id event d = MayAt c id event × (d ≡ after c id (view_at c id) event)

-- the seat is there and has a number, the node is there, and the event's own condition holds
abbrev pub IsAllowedAt : Core → ℕ → EventKind → Type 0
IsAllowedAt c id event = (id < length c.seats) × ((view_at c id).number < 64) × (event_node event < length c.rows) × May c (view_at c id) event

-- that is what `Allowed` says
abbrev pub SeatsAreRead : Type 0
SeatsAreRead = (c : Core) (id : ℕ) (event : EventKind) → Allowed c id event ↔ IsAllowedAt c id event
