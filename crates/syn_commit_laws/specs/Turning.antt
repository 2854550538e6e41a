-- What each event of a seat makes of its view, with what a sound core adds to it.
use Rattle.std.specs.Prelude.{◌≡◌, ◌≢◌, ℕ, ◌+◌, ◌<◌, ◌≤◌, ◌==◌, ◌↔◌, if◌then◌else◌, Bool, true, false, List, [], ◌∷◌, Option, Some, None, ⊤}
use Rattle.syn_rows.specs.declared.Row.{Row}
use Rattle.syn_rows.specs.declared.Row.TheVariants.{Free}
use Rattle.syn_rows.specs.References.{refs, sum_below}
use Rattle.syn_core_laws.specs.declared.View.{View}
use Rattle.syn_core_laws.specs.declared.Change.{Change}
use Rattle.syn_core_laws.specs.declared.Seen.{Seen}
use Rattle.syn_core_laws.specs.declared.EventKind.{EventKind}
use Rattle.syn_core_laws.specs.declared.EventKind.TheVariants as Kind
use Rattle.syn_rows.specs.Nodes.{has_node}
use Rattle.syn_rows.specs.Rows.{is_derived}
use Rattle.syn_core_laws.specs.Views.{is_derived_known, known_row, own_refs, own_pins, claimed, missed, released, row_loaded, pinned, unpinned, count_loaded, key_loaded, key_set, made, redefined, freed}
use Rattle.syn_commit_laws.specs.Dying.{IsLoaded}

-- a pin for each place of the row
abbrev pub IsServed : View → Row → Type 0
IsServed v row = (m : ℕ) → refs m row ≤ own_pins v m

-- The view w after an event of a seat whose view is v, among so many nodes. Beside the view's own change: a loaded count is at least the seat's references
-- and pins, the count of a sole node is exactly these, and a freed row was a gate to which nothing of the seat's referred.
abbrev pub Turns : ℕ → View → EventKind → View → Type 0
Turns nodes v (Kind.Claim n) w = w ≡ claimed v n
Turns nodes v (Kind.ClaimFailed n) w = w ≡ missed v n
Turns nodes v (Kind.Release n) w = w ≡ released v n
Turns nodes v (Kind.LoadRow n) w = (r : Row) × (w ≡ row_loaded v n r)
Turns nodes v (Kind.Pin n) w = w ≡ pinned v n
Turns nodes v (Kind.Unpin n) w = (count : ℕ) × (has_node v.pins n ≡ true) × (has_node v.sole n ≡ true → count ≡ own_refs nodes v n + own_pins v n) × (w ≡ unpinned v n count)
Turns nodes v (Kind.LoadCount n) w = (count : ℕ) × (own_refs nodes v n + own_pins v n ≤ count) × (w ≡ count_loaded nodes v n count)
Turns nodes v (Kind.LoadKey n) w = (key : ℕ) × (w ≡ key_loaded v n key)
Turns nodes v (Kind.SetKey n key) w = w ≡ key_set v n key
Turns nodes v (Kind.Make n row) w = (n < nodes) × (known_row v n ≡ Some Free) × IsServed v row × (w ≡ made v n row)
Turns nodes v (Kind.Redefine n row over) w = (old : Row) × (n < nodes) × (known_row v n ≡ Some old) × (is_derived row ≡ true) × IsServed v row × (w ≡ redefined v n old row)
Turns nodes v (Kind.Free n) w = (old : Row) × (n < nodes) × (known_row v n ≡ Some old) × (is_derived old ≡ true) × (own_refs nodes v n + own_pins v n ≡ 0) × (has_node v.idle n ≡ true) × (w ≡ freed v n old)

-- the row refers to no node of the set
abbrev pub Spares : (ℕ → Bool) → Row → Type 0
Spares set row = (m : ℕ) → set m ≡ true → refs m row ≡ 0

-- What a commit does between the loads of counts and the last free: it claims nothing and loads no row, lets go only of nodes that it knows to be free, makes rows in nodes that don't die
-- and over nodes that don't die, and redefines the root alone.
abbrev pub Commits : ℕ → (ℕ → Bool) → View → EventKind → Type 0
Commits root dying v (Kind.Claim n) = ⊥
Commits root dying v (Kind.ClaimFailed n) = ⊥
Commits root dying v (Kind.Release n) = known_row v n ≡ Some Free
Commits root dying v (Kind.LoadRow n) = ⊥
Commits root dying v (Kind.Pin n) = ⊤
Commits root dying v (Kind.Unpin n) = ⊤
Commits root dying v (Kind.LoadCount n) = ⊤
Commits root dying v (Kind.LoadKey n) = ⊤
Commits root dying v (Kind.SetKey n key) = ⊤
Commits root dying v (Kind.Make n row) = (dying n ≡ false) × Spares dying row
Commits root dying v (Kind.Redefine n row over) = n ≡ root
Commits root dying v (Kind.Free n) = ⊤

-- what a commit does that gives up: it takes pins back, frees, and lets go of free nodes; it may load and pin, but not the root
abbrev pub GivesUp : ℕ → View → EventKind → Type 0
GivesUp root v (Kind.Claim n) = ⊥
GivesUp root v (Kind.ClaimFailed n) = ⊥
GivesUp root v (Kind.Release n) = known_row v n ≡ Some Free
GivesUp root v (Kind.LoadRow n) = ⊥
GivesUp root v (Kind.Pin n) = n ≢ root
GivesUp root v (Kind.Unpin n) = ⊤
GivesUp root v (Kind.LoadCount n) = ⊤
GivesUp root v (Kind.LoadKey n) = ⊤
GivesUp root v (Kind.SetKey n key) = ⊥
GivesUp root v (Kind.Make n row) = ⊥
GivesUp root v (Kind.Redefine n row over) = ⊥
GivesUp root v (Kind.Free n) = ⊤

-- the change that stores a row where another is known
abbrev pub change_of : ℕ → Option Row → Row → List Change
change_of n None new = []
change_of n (Some old) new = (record { node = n; old = old; new = new }) ∷ []

-- the changes that the event stores
abbrev pub stored_by : View → EventKind → List Change
stored_by v (Kind.Claim n) = []
stored_by v (Kind.ClaimFailed n) = []
stored_by v (Kind.Release n) = []
stored_by v (Kind.LoadRow n) = []
stored_by v (Kind.Pin n) = []
stored_by v (Kind.Unpin n) = []
stored_by v (Kind.LoadCount n) = []
stored_by v (Kind.LoadKey n) = []
stored_by v (Kind.SetKey n key) = []
stored_by v (Kind.Make n row) = []
stored_by v (Kind.Redefine n row over) = change_of n (known_row v n) row
stored_by v (Kind.Free n) = change_of n (known_row v n) Free

-- 1 for a made row
abbrev pub made_by : EventKind → ℕ
made_by (Kind.Claim n) = 0
made_by (Kind.ClaimFailed n) = 0
made_by (Kind.Release n) = 0
made_by (Kind.LoadRow n) = 0
made_by (Kind.Pin n) = 0
made_by (Kind.Unpin n) = 0
made_by (Kind.LoadCount n) = 0
made_by (Kind.LoadKey n) = 0
made_by (Kind.SetKey n key) = 0
made_by (Kind.Make n row) = 1
made_by (Kind.Redefine n row over) = 0
made_by (Kind.Free n) = 0

-- how many rows the events make
abbrev pub makes : List EventKind → ℕ
makes [] = 0
makes (e ∷ es) = made_by e + makes es

-- the events of a seat, one after the other
abbrev pub TurnsAll : ℕ → View → List EventKind → View → Type 0
TurnsAll nodes v [] w = w ≡ v
TurnsAll nodes v (e ∷ es) w = (u : View) × Turns nodes v e u × TurnsAll nodes u es w

-- the same of events of a commit
abbrev pub CommitsAll : ℕ → ℕ → (ℕ → Bool) → View → List EventKind → View → Type 0
CommitsAll nodes root dying v [] w = w ≡ v
CommitsAll nodes root dying v (e ∷ es) w = (u : View) × Turns nodes v e u × Commits root dying v e × CommitsAll nodes root dying u es w

-- loads of the counts of these nodes
abbrev pub loads : List ℕ → List EventKind
loads [] = []
loads (n ∷ ns) = Kind.LoadCount n ∷ loads ns

-- a count that was met is loaded, and was met with the seat's pins of the node
abbrev pub HasCount : ℕ → View → Seen → Type 0
HasCount nodes v (Seen.Row n r) = ⊤
HasCount nodes v (Seen.Key n k) = ⊤
HasCount nodes v (Seen.Count n x own) = IsLoaded nodes v n x × (own ≡ own_pins v n)
HasCount nodes v (Seen.Miss n) = ⊤

-- 1 for a row known as a gate
abbrev pub one_gate : Option Row → ℕ
one_gate row = if is_derived_known row then 1 else 0

-- how many nodes the seat knows as gates
abbrev pub gates_known : ℕ → View → ℕ
gates_known nodes v = sum_below nodes (λ n. one_gate (known_row v n))
