-- The events of the core: when each is allowed, and the state after it.
use Rattle.std.specs.Prelude.{◌≡◌, ◌≢◌, ◌⊎◌, ℕ, suc, ◌-◌, ◌<◌, ◌≤◌, true, false, List, length, slice_index, slice_set, Some}
use mathlib.Core.Option.{some}
use lib.ListN.{get_elem?}
use Rattle.syn_rows.specs.declared.Row.{Row}
use Rattle.syn_rows.specs.declared.Row.TheVariants.{Free, And}
use Rattle.syn_rows.specs.declared.Lit.{Lit}
use Rattle.syn_rows.specs.Rows.{row_at, AllRefs, is_derived}
use Rattle.syn_rows.specs.References.{refs}
use Rattle.syn_core_laws.specs.declared.View.{View}
use Rattle.syn_core_laws.specs.declared.EventKind.TheVariants as Kind
use Rattle.syn_core_laws.specs.declared.EventKind.{EventKind}
use Rattle.syn_rows.specs.Nodes.{has_node}
use Rattle.syn_core_laws.specs.Views.{is_mine, known_row, known_key, own_pins, pins_after, claimed, missed, released, row_loaded, pinned, unpinned, count_loaded, key_loaded, key_set, made, redefined, freed}
use Rattle.syn_core_laws.specs.Cores.{Core}
use Rattle.syn_core_laws.specs.SameValue.{SameValue}

-- ---- conditions
-- a known row refers to the node; each counts as referring to node 0
abbrev pub Refers : View → ℕ → Type 0
Refers v n = (m : ℕ) × (r : Row) × (known_row v m ≡ Some r) × ((n ≡ 0) ⊎ (1 ≤ refs n r))

-- held and known as a row that isn't `Free`
abbrev pub KnowsUsed : View → ℕ → Type 0
KnowsUsed v n = (r : Row) × (known_row v n ≡ Some r) × (r ≢ Free)

-- what a seat may pin: a node that it holds and knows to be there, one to which a row that it knows refers, or one that it has pinned
abbrev pub MayPin : View → ℕ → Type 0
MayPin v n = (KnowsUsed v n ⊎ Refers v n) ⊎ (has_node v.pins n ≡ true)

-- the node's key is known, and below the given one
abbrev pub KeyBelow : View → ℕ → ℕ → Type 0
KeyBelow v key m = (k : ℕ) × (known_key v m ≡ Some k) × (k < key)

-- the row's nodes are pinned, one pin for each place, and their known keys are below the given one
abbrev pub MayRest : View → ℕ → Row → Type 0
MayRest v key row = ((m : ℕ) → refs m row ≤ own_pins v m) × AllRefs (KeyBelow v key) row

-- the row is an AND
abbrev pub IsAnd : Row → Type 0
IsAnd row = (a : Lit) × (b : Lit) × (row ≡ And a b)

-- what a redefine asks where the node has this key and its row is known as `old`: both rows are ANDs or aliases, the new one may rest on its nodes, at most 512 pins are left, and the two have the same value over at most 8 named nodes
abbrev pub MayRedefine : View → ℕ → ℕ → Row → List ℕ → Row → Type 0
MayRedefine v n key row over old = (known_row v n ≡ Some old) × (is_derived old ≡ true) × (is_derived row ≡ true) × MayRest v key row × (length (pins_after v old row) ≤ 512) × (length over ≤ 8) × SameValue v over old row

-- what a free asks: the node is on the zero list, and at most 512 pins are left
abbrev pub MayFree : View → ℕ → Type 0
MayFree v n = (has_node v.idle n ≡ true) × ((old : Row) → known_row v n ≡ Some old → length (pins_after v old Free) ≤ 512)

-- what each kind of event asks of the words and of the seat's view
abbrev pub May : Core → View → EventKind → Type 0
May c v (Kind.Claim n) = (slice_index c.claims n ≡ 0) × (has_node v.held n ≡ false)
May c v (Kind.ClaimFailed n) = (slice_index c.claims n ≢ 0) × (has_node v.held n ≡ false)
May c v (Kind.Release n) = (has_node v.held n ≡ true) × (has_node v.idle n ≡ false)
May c v (Kind.LoadRow n) = has_node v.held n ≡ true
May c v (Kind.Pin n) = MayPin v n × (length v.pins < 512)
May c v (Kind.Unpin n) = has_node v.pins n ≡ true
May c v (Kind.LoadCount n) = has_node v.held n ≡ true
May c v (Kind.LoadKey n) = is_mine v n ≡ true
May c v (Kind.SetKey n key) = known_row v n ≡ Some Free
May c v (Kind.Make n row) = (known_row v n ≡ Some Free) × IsAnd row × MayRest v (slice_index c.keys n) row
May c v (Kind.Redefine n row over) = (old : Row) × MayRedefine v n (slice_index c.keys n) row over.items old
May c v (Kind.Free n) = MayFree v n

-- the node of the event
abbrev pub event_node : EventKind → ℕ
event_node (Kind.Claim n) = n
event_node (Kind.ClaimFailed n) = n
event_node (Kind.Release n) = n
event_node (Kind.LoadRow n) = n
event_node (Kind.Pin n) = n
event_node (Kind.Unpin n) = n
event_node (Kind.LoadCount n) = n
event_node (Kind.LoadKey n) = n
event_node (Kind.SetKey n key) = n
event_node (Kind.Make n row) = n
event_node (Kind.Redefine n row over) = n
event_node (Kind.Free n) = n

-- the seat is there and has a number, the node is there, and the event's own condition holds
abbrev pub Allowed : Core → ℕ → EventKind → Type 0
Allowed c id event = (v : View) × (get_elem? c.seats id ≡ some v) × (v.number < 64) × (event_node event < length c.rows) × May c v event

-- ---- effects: one word, and the seat's own view
-- no word changes
abbrev pub sits : Core → ℕ → View → Core
sits c id v = record c { seats = slice_set c.seats id v }

-- the node's claim is stored
abbrev pub claim_stored : Core → ℕ → View → ℕ → ℕ → Core
claim_stored c id w n claim = record c { claims = slice_set c.claims n claim; seats = slice_set c.seats id w }

-- the node's count is stored
abbrev pub count_stored : Core → ℕ → View → ℕ → ℕ → Core
count_stored c id w n count = record c { counts = slice_set c.counts n count; seats = slice_set c.seats id w }

-- the node's key is stored
abbrev pub key_stored : Core → ℕ → View → ℕ → ℕ → Core
key_stored c id w n key = record c { keys = slice_set c.keys n key; seats = slice_set c.seats id w }

-- the node's row is stored
abbrev pub row_stored : Core → ℕ → View → ℕ → Row → Core
row_stored c id w n row = record c { rows = slice_set c.rows n row; seats = slice_set c.seats id w }

-- the state after each kind of event of the seat id, whose view was v
abbrev pub after : Core → ℕ → View → EventKind → Core
after c id v (Kind.Claim n) = claim_stored c id (claimed v n) n (suc v.number)
after c id v (Kind.ClaimFailed n) = sits c id (missed v n)
after c id v (Kind.Release n) = claim_stored c id (released v n) n 0
after c id v (Kind.LoadRow n) = sits c id (row_loaded v n (row_at c.rows n))
after c id v (Kind.Pin n) = count_stored c id (pinned v n) n (suc (slice_index c.counts n))
after c id v (Kind.Unpin n) = count_stored c id (unpinned v n (slice_index c.counts n)) n (slice_index c.counts n - 1)
after c id v (Kind.LoadCount n) = sits c id (count_loaded (length c.rows) v n (slice_index c.counts n))
after c id v (Kind.LoadKey n) = sits c id (key_loaded v n (slice_index c.keys n))
after c id v (Kind.SetKey n key) = key_stored c id (key_set v n key) n key
after c id v (Kind.Make n row) = row_stored c id (made v n row) n row
after c id v (Kind.Redefine n row over) = row_stored c id (redefined v n (row_at c.rows n) row) n row
after c id v (Kind.Free n) = row_stored c id (freed v n (row_at c.rows n)) n Free
