-- The laws on what a commit frees.
use Rattle.std.specs.Prelude.{◌≡◌, ◌≢◌, ◌⊎◌, ℕ, ◌+◌, ◌<◌, ◌≤◌, Bool, true, false, All, List, [], ◌∷◌, ◌++◌, length, slice_index_or, Some, pos, ◌+ℤ◌}
use mathlib.Core.Option.{some}
use lib.ListN.{get_elem?}
use Rattle.arrayvec.specs.ArrayVec.{ArrayVec}
use Rattle.syn_rows.specs.declared.Row.{Row}
use Rattle.syn_rows.specs.declared.Row.TheVariants.{Free}
use Rattle.syn_rows.specs.Rows.{row_at}
use Rattle.syn_rows.specs.References.{and_count}
use Rattle.syn_core_laws.specs.declared.View.{View}
use Rattle.syn_core_laws.specs.declared.Change.{Change}
use Rattle.syn_core_laws.specs.declared.Seen.{Seen}
use Rattle.syn_core_laws.specs.declared.Event.{Event}
use Rattle.syn_core_laws.specs.declared.EventKind.{EventKind}
use Rattle.syn_core_laws.specs.declared.EventKind.TheVariants as Kind
use Rattle.syn_rows.specs.Nodes.{has_node}
use Rattle.syn_rows.specs.Rows.{is_derived}
use Rattle.syn_core_laws.specs.Views.{is_derived_known, known_row, refs_known, own_refs, own_pins, count_loaded, made, redefined, freed}
use Rattle.syn_core_laws.specs.Cores.{Core}
use Rattle.syn_core_laws.specs.Sound.{IsSound}
use Rattle.syn_core_laws.specs.Runs.{Steps, Runs}
use Rattle.syn_core_laws.specs.Shown.{HasNoCircle}
use Rattle.syn_commit_laws.specs.Dying.{ands_in, explained, IsDying, ands_among, AreFound, explained_by, IsLoaded, AreDoomed, IsWalk, AreLoaded}
use Rattle.syn_commit_laws.specs.Turning.{Turns, Spares, Commits, GivesUp, stored_by, made_by, makes, TurnsAll, CommitsAll, loads, HasCount, gates_known}
use Rattle.syn_commit_laws.specs.Freeing.{ands_freed, late, redefines, ands_before, ands_after, IsTold, IsFreeing, IsFreed, IsOut, IsGivenUp}
use Rattle.syn_commit_laws.specs.Running.{own, CommitsAlong}

-- ---- the dying rows
-- A dying row may die, and its count is explained.
abbrev pub DyingAreExplained : Type 0
DyingAreExplained =
    (nodes : ℕ) (v : View) (counts : ℕ → ℕ) (root : ℕ) (may dying : ℕ → Bool) → IsDying nodes v counts root may dying
    → (m : ℕ) → dying m ≡ true → (may m ≡ true) × (counts m ≤ explained nodes v root dying m)

-- A row that refers to nothing that may die refers to nothing that dies.
abbrev pub NewRowsSpare : Type 0
NewRowsSpare =
    (nodes : ℕ) (v : View) (counts : ℕ → ℕ) (root : ℕ) (may dying : ℕ → Bool) (row : Row) → IsDying nodes v counts root may dying → Spares may row → Spares dying row

-- ---- loads of counts
-- A load of a count that is at least the seat's references and pins loads it, and what was loaded before stays so.
abbrev pub CountsLoad : Type 0
CountsLoad =
    (nodes : ℕ) (v : View) (m x : ℕ) → own_refs nodes v m + own_pins v m ≤ x
    → IsLoaded nodes (count_loaded nodes v m x) m x × ((n y : ℕ) → IsLoaded nodes v n y → IsLoaded nodes (count_loaded nodes v m x) n y)

-- Loads of counts leave the known rows and the pins; each count that they met is loaded, and stays so.
abbrev pub LoadsTell : Type 0
LoadsTell =
    (nodes : ℕ) (v w : View) (ns : List ℕ) → TurnsAll nodes v (loads ns) w
    → (w.rows ≡ v.rows) × (w.pins ≡ v.pins) × (reads : List Seen) × (w.reads ≡ v.reads ++ reads) × All (HasCount nodes w) reads

-- The dying rows of a walk are doomed: each is the seat's alone, and only the root and dying rows are known to refer to it.
abbrev pub DyingAreDoomed : Type 0
DyingAreDoomed =
    (nodes : ℕ) (v : View) (counts : ℕ → ℕ) (root : ℕ) (may dying : ℕ → Bool) → IsWalk nodes root may v → AreLoaded nodes may counts v → IsDying nodes v counts root may dying → AreDoomed nodes root dying v

-- A node that was known to be free doesn't die.
abbrev pub FreeNodesLive : Type 0
FreeNodesLive = (nodes root : ℕ) (dying : ℕ → Bool) (v : View) (n : ℕ) → AreDoomed nodes root dying v → known_row v n ≡ Some Free → dying n ≡ false

-- ---- dying rows as a list
-- None is found at first,
abbrev pub FindingBegins : Type 0
FindingBegins = (nodes : ℕ) (v : View) (counts : ℕ → ℕ) (root : ℕ) (may : ℕ → Bool) → AreFound nodes v counts root may []

-- one more that the rows found explain is found,
abbrev pub FindingGoesOn : Type 0
FindingGoesOn =
    (nodes : ℕ) (v : View) (counts : ℕ → ℕ) (root : ℕ) (may : ℕ → Bool) (dead : List ℕ) (m : ℕ)
    → AreFound nodes v counts root may dead → m < nodes → may m ≡ true → counts m ≤ explained_by v root dead m → has_node dead m ≡ false
    → AreFound nodes v counts root may (dead ++ m ∷ [])

-- and where no other is explained, they are the dying rows, with so many ANDs among them.
abbrev pub FindingEnds : Type 0
FindingEnds =
    (nodes : ℕ) (v : View) (counts : ℕ → ℕ) (root : ℕ) (may : ℕ → Bool) (dead : List ℕ)
    → AreFound nodes v counts root may dead → ((m : ℕ) → may m ≡ true → counts m ≤ explained_by v root dead m → has_node dead m ≡ true)
    → IsDying nodes v counts root may (λ n. has_node dead n) × (ands_in nodes v (λ n. has_node dead n) ≡ ands_among v dead)

-- ---- differences, whatever a seat does
abbrev pub TellingBegins : Type 0
TellingBegins = (start : View) → IsTold start 0 [] start

abbrev pub TellingGoesOn : Type 0
TellingGoesOn =
    (nodes : ℕ) (start v w : View) (rows_made : ℕ) (changes : List Change) (e : EventKind) → IsTold start rows_made changes v → Turns nodes v e w
    → IsTold start (rows_made + made_by e) (changes ++ stored_by v e) w

-- The difference fell by the ANDs that were freed in the set, those that are late, and those that were redefined, less those that were made and that became new rows.
abbrev pub DifferencesTell : Type 0
DifferencesTell =
    (start v : View) (rows_made : ℕ) (changes : List Change) (set : ℕ → Bool) → IsTold start rows_made changes v
    → v.difference +ℤ pos (ands_freed set changes + late set changes + ands_before (redefines changes)) ≡ start.difference +ℤ pos (rows_made + ands_after (redefines changes))

abbrev pub RedefinesAppend : Type 0
RedefinesAppend = (xs ys : List Change) → redefines (xs ++ ys) ≡ redefines xs ++ redefines ys

-- A free adds no redefine, a redefine adds itself.
abbrev pub FreesAddNone : Type 0
FreesAddNone = (v : View) (n : ℕ) (changes : List Change) → redefines (changes ++ stored_by v (Kind.Free n)) ≡ redefines changes

abbrev pub RedefinesAddOne : Type 0
RedefinesAddOne =
    (v : View) (n : ℕ) (old row : Row) (over : ArrayVec ℕ) (changes : List Change) → known_row v n ≡ Some old → is_derived row ≡ true
    → redefines (changes ++ stored_by v (Kind.Redefine n row over)) ≡ redefines changes ++ (record { node = n; old = old; new = row }) ∷ []

-- The same of a list of events.
abbrev pub ListsTell : Type 0
ListsTell = (nodes : ℕ) (v w : View) (es : List EventKind) → TurnsAll nodes v es w → (changes : List Change) × IsTold v (makes es) changes w

-- ---- from the loads to the last free
-- So it begins,
abbrev pub FreeingBegins : Type 0
FreeingBegins = (nodes root : ℕ) (dying : ℕ → Bool) (start : View) → AreDoomed nodes root dying start → IsFreeing nodes root dying start 0 [] start

-- each event of a commit goes on,
abbrev pub FreeingGoesOn : Type 0
FreeingGoesOn =
    (nodes root : ℕ) (dying : ℕ → Bool) (start v w : View) (rows_made : ℕ) (changes : List Change) (e : EventKind)
    → AreDoomed nodes root dying start → IsFreeing nodes root dying start rows_made changes v → Turns nodes v e w → Commits root dying v e
    → IsFreeing nodes root dying start (rows_made + made_by e) (changes ++ stored_by v e) w

-- and once no pin and no zero list is left, and the root's row refers to no dying row, all dying rows are freed.
abbrev pub FreeingEnds : Type 0
FreeingEnds =
    (nodes root : ℕ) (dying : ℕ → Bool) (start v : View) (rows_made : ℕ) (changes : List Change)
    → AreDoomed nodes root dying start → IsFreeing nodes root dying start rows_made changes v
    → v.pins ≡ [] → v.idle ≡ [] → HasNoCircle nodes v → ((row : Row) → known_row v root ≡ Some row → Spares dying row)
    → IsFreed nodes dying start changes v

-- The gain: where the root's row alone was redefined, from `old` to `new`, and the ANDs that died, with the old row, are g more than those that came, with the new row, the difference
-- fell by exactly g and the late ANDs.
abbrev pub FreedTellGain : Type 0
FreedTellGain =
    (nodes root : ℕ) (dying : ℕ → Bool) (start v : View) (rows_made : ℕ) (changes : List Change) (old new : Row) (g : ℕ)
    → IsTold start rows_made changes v → IsFreed nodes dying start changes v
    → redefines changes ≡ (record { node = root; old = old; new = new }) ∷ [] → and_count old + ands_in nodes start dying ≡ rows_made + and_count new + g
    → v.difference +ℤ pos (g + late dying changes) ≡ start.difference

-- The same of a list of events.
abbrev pub CommitsFree : Type 0
CommitsFree =
    (nodes root : ℕ) (dying : ℕ → Bool) (start v : View) (es : List EventKind)
    → AreDoomed nodes root dying start → CommitsAll nodes root dying start es v
    → v.pins ≡ [] → v.idle ≡ [] → HasNoCircle nodes v → ((row : Row) → known_row v root ≡ Some row → Spares dying row)
    → (changes : List Change) × IsTold start (makes es) changes v × IsFreed nodes dying start changes v

-- Each free leaves one known gate less; pins and releases of free nodes leave as many.
abbrev pub GatesFall : Type 0
GatesFall =
    (nodes : ℕ) (v w : View) → ((n : ℕ) → Turns nodes v (Kind.Free n) w → gates_known nodes w + 1 ≡ gates_known nodes v)
    × ((n : ℕ) → Turns nodes v (Kind.Unpin n) w → gates_known nodes w ≡ gates_known nodes v)
    × ((n : ℕ) → Turns nodes v (Kind.Release n) w → known_row v n ≡ Some Free → gates_known nodes w ≡ gates_known nodes v)

-- ---- a commit that gives up
abbrev pub GivingUpBegins : Type 0
GivingUpBegins =
    (nodes root : ℕ) (dying : ℕ → Bool) (start : View) → AreDoomed nodes root dying start → is_derived_known (known_row start root) ≡ true → IsOut nodes start root
    → IsGivenUp nodes root dying start [] start

-- No known row of a walk refers to its root: each other node of the walk is referred to by a row of it.
abbrev pub RootsAreOut : Type 0
RootsAreOut =
    (nodes root : ℕ) (inner : ℕ → Bool) (v : View) → HasNoCircle nodes v → inner root ≡ true
    → ((m : ℕ) → inner m ≡ true → m ≢ root → (n : ℕ) × (n < nodes) × (inner n ≡ true) × (1 ≤ refs_known m (known_row v n)))
    → (n : ℕ) → n < nodes → inner n ≡ true → refs_known root (known_row v n) ≡ 0

abbrev pub GivingUpGoesOn : Type 0
GivingUpGoesOn =
    (nodes root : ℕ) (dying : ℕ → Bool) (start v w : View) (changes : List Change) (e : EventKind)
    → AreDoomed nodes root dying start → IsGivenUp nodes root dying start changes v → Turns nodes v e w → GivesUp root v e
    → IsGivenUp nodes root dying start (changes ++ stored_by v e) w

-- The difference fell by exactly the late ANDs.
abbrev pub GivenUpTells : Type 0
GivenUpTells =
    (nodes root : ℕ) (dying : ℕ → Bool) (start v : View) (changes : List Change) → IsGivenUp nodes root dying start changes v
    → v.difference +ℤ pos (late dying changes) ≡ start.difference

-- The same before any count is loaded, when nothing was counted as dying: all ANDs that were freed are late.
abbrev pub EarlyTells : Type 0
EarlyTells =
    (start v : View) (changes : List Change) → IsTold start 0 changes v → redefines changes ≡ []
    → v.difference +ℤ pos (late (λ n. false) changes) ≡ start.difference

-- ---- by the core
-- An event turns its seat's view, and no other's; the nodes stay as many.
abbrev pub EventsTurn : Type 0
EventsTurn =
    (c : Core) (e : Event) (d : Core) (v : View) → IsSound c → Steps c e d → get_elem? c.seats e.seat ≡ some v
    → (w : View) × (get_elem? d.seats e.seat ≡ some w) × Turns (length c.rows) v e.kind w

abbrev pub OthersStay : Type 0
OthersStay = (c : Core) (e : Event) (d : Core) (j : ℕ) (u : View) → Steps c e d → j ≢ e.seat → get_elem? c.seats j ≡ some u → get_elem? d.seats j ≡ some u

abbrev pub NodesStay : Type 0
NodesStay = (c : Core) (e : Event) (d : Core) → Steps c e d → length d.rows ≡ length c.rows

-- The events of a seat turn its view one after the other, whatever other seats do between them.
abbrev pub RunsTurn : Type 0
RunsTurn =
    (c : Core) (es : List Event) (d : Core) (id : ℕ) (v : View) → IsSound c → Runs c es d → get_elem? c.seats id ≡ some v
    → (w : View) × (get_elem? d.seats id ≡ some w) × TurnsAll (length c.rows) v (own id es) w

-- The whole of it, among the events of all seats: the dying rows are freed, and each is `Free` or was let go afterwards.
abbrev pub DyingRowsAreFreed : Type 0
DyingRowsAreFreed =
    (c : Core) (es : List Event) (d : Core) (id root : ℕ) (dying : ℕ → Bool) (v w : View)
    → IsSound c → CommitsAlong id root dying c es d → get_elem? c.seats id ≡ some v → get_elem? d.seats id ≡ some w
    → AreDoomed (length c.rows) root dying v → w.pins ≡ [] → w.idle ≡ [] → ((row : Row) → known_row w root ≡ Some row → Spares dying row)
    → (changes : List Change) × IsTold v (makes (own id es)) changes w × IsFreed (length c.rows) dying v changes w
    × ((m : ℕ) → dying m ≡ true → (row_at d.rows m ≡ Free) ⊎ (has_node w.held m ≡ false))

-- the reads have the node's count
abbrev pub ReadsCount : List Seen → ℕ → ℕ → Type 0
ReadsCount reads m count = (k : ℕ) × (pins : ℕ) × (k < length reads) × (slice_index_or reads k (Seen.Miss 0) ≡ Seen.Count m count pins)

-- The same from before the loads: the seat only loads counts at first, and the reads tell those of all that may die. Between its events other seats do what they may.
abbrev pub CommittedRowsAreFreed : Type 0
CommittedRowsAreFreed =
    (b c d : Core) (before after : List Event) (id root : ℕ) (ns : List ℕ) (counts : ℕ → ℕ) (may dying : ℕ → Bool) (u v w : View) (reads : List Seen)
    → IsSound b → Runs b before c → get_elem? b.seats id ≡ some u → get_elem? c.seats id ≡ some v
    → own id before ≡ loads ns → v.reads ≡ u.reads ++ reads → ((m : ℕ) → may m ≡ true → ReadsCount reads m (counts m))
    → IsWalk (length b.rows) root may v → IsDying (length b.rows) v counts root may dying
    → CommitsAlong id root dying c after d → get_elem? d.seats id ≡ some w
    → w.pins ≡ [] → w.idle ≡ [] → ((row : Row) → known_row w root ≡ Some row → Spares dying row)
    → (changes : List Change) × IsTold v (makes (own id after)) changes w × IsFreed (length b.rows) dying v changes w
    × ((m : ℕ) → dying m ≡ true → (row_at d.rows m ≡ Free) ⊎ (has_node w.held m ≡ false))
