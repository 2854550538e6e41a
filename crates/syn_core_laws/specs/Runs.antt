-- Lists of events, and the laws of the core.
use Rattle.std.specs.Prelude.{◌≡◌, ◌≢◌, ℕ, zero, suc, ◌<◌, Bool, true, false, All, List, [], ◌∷◌, length, slice_index}
use mathlib.Core.Option.{some}
use lib.ListN.{get_elem?}
use Rattle.syn_rows.specs.Rows.{row_at}
use Rattle.syn_rows.specs.declared.Row.TheVariants.{Free, Source}
use Rattle.syn_rows.specs.Values.{Fits, SameSources}
use Rattle.syn_core_laws.specs.declared.View.{View}
use Rattle.syn_core_laws.specs.declared.Event.{Event}
use Rattle.syn_rows.specs.Nodes.{has_node}
use Rattle.syn_core_laws.specs.Cores.{Core}
use Rattle.syn_core_laws.specs.Events.{event_node, May, Allowed, after}
use Rattle.syn_core_laws.specs.Sound.{IsSound}

-- the event is allowed, and leads to the second state
abbrev pub Steps : Core → Event → Core → Type 0
Steps c e d = (v : View) × (get_elem? c.seats e.seat ≡ some v) × (v.number < 64) × (event_node e.kind < length c.rows) × May c v e.kind × (d ≡ after c e.seat v e.kind)

-- the events, each allowed after those before it, lead to the second state
abbrev pub Runs : Core → List Event → Core → Type 0
Runs c [] d = d ≡ c
Runs c (e ∷ es) d = (next : Core) × Steps c e next × Runs next es d

-- the event at this index is forbidden, and each one before it is allowed after those before it
abbrev pub FirstForbidden : Core → List Event → ℕ → Type 0
FirstForbidden c [] index = ⊥
FirstForbidden c (e ∷ es) zero = Allowed c e.seat e.kind → ⊥
FirstForbidden c (e ∷ es) (suc index) = (next : Core) × Steps c e next × FirstForbidden next es index

-- the state is sound, and so is each state that the events lead to, as far as they are allowed
abbrev pub SoundAlong : Core → List Event → Type 0
SoundAlong c [] = IsSound c
SoundAlong c (e ∷ es) = IsSound c × ((next : Core) → Steps c e next → SoundAlong next es)

-- an allowed event keeps the core sound
abbrev pub EventsKeepSound : Type 0
EventsKeepSound = (c : Core) (e : Event) (d : Core) → IsSound c → Steps c e d → IsSound d

-- so does each list of events
abbrev pub RunsKeepSound : Type 0
RunsKeepSound = (c : Core) (es : List Event) (d : Core) → IsSound c → Runs c es d → IsSound d

-- the core is sound after each event of each list
abbrev pub RunsStaySound : Type 0
RunsStaySound = (c : Core) (es : List Event) → IsSound c → SoundAlong c es

-- the count of a seat's sole node is no other seat's to change, and it stays sole
abbrev pub SoleCountsStay : Type 0
SoleCountsStay = (c : Core) (e : Event) (d : Core) (j : ℕ) (u : View) (m : ℕ) → IsSound c → Steps c e d → j ≢ e.seat → get_elem? c.seats j ≡ some u → has_node u.sole m ≡ true
    → (slice_index d.counts m ≡ slice_index c.counts m) × (get_elem? d.seats j ≡ some u)

-- so it is after each list of events of other seats
abbrev pub SoleCountsStayAlong : Type 0
SoleCountsStayAlong = (c : Core) (es : List Event) (d : Core) (j : ℕ) (u : View) (m : ℕ) → IsSound c → Runs c es d → All (λ e. j ≢ e.seat) es → get_elem? c.seats j ≡ some u → has_node u.sole m ≡ true
    → (slice_index d.counts m ≡ slice_index c.counts m) × (get_elem? d.seats j ≡ some u)

-- for each choice of source values there is a valuation that fits the rows
abbrev pub SomeValuation : Type 0
SomeValuation = (c : Core) (given : ℕ → Bool) → IsSound c → given 0 ≡ false → (v : ℕ → Bool) × Fits c.rows v × ((n : ℕ) → row_at c.rows n ≡ Source → v n ≡ given n)

-- keys rise along references, so the sources determine the value of each node that is there
abbrev pub OneValuation : Type 0
OneValuation = (c : Core) (v w : ℕ → Bool) → IsSound c → Fits c.rows v → Fits c.rows w → SameSources c.rows v w → (n : ℕ) → row_at c.rows n ≢ Free → v n ≡ w n
