-- What each step tells its seat.
use Rattle.std.specs.Prelude.{◌≡◌, ℕ, ◌==◌, ◌<◌, ◌^◌, if◌then◌else◌, Bool, List, length, slice_index, Some}
use Rattle.atomic_table.specs.Table.{Step, Me}
use Rattle.syn_rows.specs.declared.Row.{Row}
use Rattle.syn_rows.specs.Packing.{word_of, Packs}
use Rattle.syn_core_laws.specs.declared.View.{View}
use Rattle.syn_core_laws.specs.Views.{known_row, known_key, claimed, missed, released, row_loaded, pinned, unpinned, count_loaded, key_loaded, key_set, made, redefined, freed}
use Rattle.syn_core_laws.specs.Events.{MayRedefine}
use Rattle.syn_core_laws.specs.declared.EventKind.TheVariants as Kind
use Rattle.syn_table.specs.declared.Known.{Known}
use Rattle.syn_table.specs.Laying.{node_at}
use Rattle.syn_table.specs.Rule.{IsActive}
use Rattle.syn_table.specs.Events.{IsEvent, redefines}

-- the same seat with another core's part
abbrev pub with_view : Known → View → Known
with_view k v = record k { core = v }

-- the seat has this view, and its numbers, opening and observed literals as before; it still shows that it isn't spent
abbrev pub Becomes : Me ℕ Known → View → Me ℕ Known → Type 0
Becomes me v new = (new ≡ (with_view me.0 v, me.1)) × IsActive (with_view me.0 v)

-- a seat that has all numbers finds no claim taken
abbrev pub FindsFree : Known → ℕ → Type 0
FindsFree k found = length k.numbers ≡ 64 → found ≡ 0

-- the claim was found free, and taken; or it was found taken
abbrev pub TellsClaim : Step ℕ → Me ℕ Known → ℕ → Me ℕ Known → Type 0
TellsClaim s me found new =
    FindsFree me.0 found × Becomes me (if found == 0 then claimed me.0.core (node_at s.word) else missed me.0.core (node_at s.word)) new
    × IsEvent me.0 (if found == 0 then Kind.Claim (node_at s.word) else Kind.ClaimFailed (node_at s.word)) new.0.core

-- the claim is 0 again
abbrev pub TellsRelease : Step ℕ → Me ℕ Known → ℕ → Me ℕ Known → Type 0
TellsRelease s me stored new = Becomes me (released me.0.core (node_at s.word)) new × IsEvent me.0 (Kind.Release (node_at s.word)) new.0.core

-- the number found is a row's word
abbrev pub TellsRow : Step ℕ → Me ℕ Known → ℕ → Me ℕ Known → Type 0
TellsRow s me found new = (r : Row) × Packs r × (word_of r ≡ found) × Becomes me (row_loaded me.0.core (node_at s.word) r) new × IsEvent me.0 (Kind.LoadRow (node_at s.word)) new.0.core

-- the count rose by 1
abbrev pub TellsPin : Step ℕ → Me ℕ Known → ℕ → Me ℕ Known → Type 0
TellsPin s me found new = Becomes me (pinned me.0.core (node_at s.word)) new × IsEvent me.0 (Kind.Pin (node_at s.word)) new.0.core

-- a pin of the node was taken back when its count was this
abbrev pub UnpinsAt : Known → ℕ → ℕ → View → Type 0
UnpinsAt k n found v = (e : IsEvent k (Kind.Unpin n) v) × (found ≡ slice_index e.core.counts n)

-- the number found is the count before it fell by 1
abbrev pub TellsUnpin : Step ℕ → Me ℕ Known → ℕ → Me ℕ Known → Type 0
TellsUnpin s me found new = UnpinsAt me.0 (node_at s.word) found new.0.core × Becomes me (unpinned me.0.core (node_at s.word) found) new

-- a pin is taken back, at some count that was found, and the answer is whether it was 1
abbrev pub Unpins : Known → ℕ → Bool → Known → Type 0
Unpins k n last new = (count : ℕ) × (last ≡ (count == 1)) × (new ≡ with_view k (unpinned k.core n count))

-- the number found is the count, which fits 32 bits
abbrev pub TellsCount : Step ℕ → Me ℕ Known → ℕ → Me ℕ Known → Type 0
TellsCount s me found new = (found < 2 ^ 32) × Becomes me (count_loaded (length me.0.opening) me.0.core (node_at s.word) found) new × IsEvent me.0 (Kind.LoadCount (node_at s.word)) new.0.core

-- the number found is the key
abbrev pub TellsKey : Step ℕ → Me ℕ Known → ℕ → Me ℕ Known → Type 0
TellsKey s me found new = Becomes me (key_loaded me.0.core (node_at s.word) found) new × IsEvent me.0 (Kind.LoadKey (node_at s.word)) new.0.core

-- the number stored is the key
abbrev pub TellsKeySet : Step ℕ → Me ℕ Known → ℕ → Me ℕ Known → Type 0
TellsKeySet s me stored new = Becomes me (key_set me.0.core (node_at s.word) stored) new × IsEvent me.0 (Kind.SetKey (node_at s.word) stored) new.0.core

-- the number stored is the word of the row that was made
abbrev pub TellsMade : Step ℕ → Me ℕ Known → ℕ → Me ℕ Known → Type 0
TellsMade s me stored new = (row : Row) × Packs row × (word_of row ≡ stored) × Becomes me (made me.0.core (node_at s.word) row) new × IsEvent me.0 (Kind.Make (node_at s.word) row) new.0.core

-- the number stored is the word of the row that stands in the place of the known one
abbrev pub TellsRedefined : Step ℕ → Me ℕ Known → ℕ → Me ℕ Known → Type 0
TellsRedefined s me stored new =
    (old : Row) × (row : Row) × (known_row me.0.core (node_at s.word) ≡ Some old) × Packs row × (word_of row ≡ stored) × Becomes me (redefined me.0.core (node_at s.word) old row) new
    × (over : List ℕ) × IsEvent me.0 (redefines (node_at s.word) row over) new.0.core

-- the known row is free now
abbrev pub TellsFreed : Step ℕ → Me ℕ Known → ℕ → Me ℕ Known → Type 0
TellsFreed s me stored new = (old : Row) × (known_row me.0.core (node_at s.word) ≡ Some old) × Becomes me (freed me.0.core (node_at s.word) old) new × IsEvent me.0 (Kind.Free (node_at s.word)) new.0.core

-- what a redefine asks of the seat: it knows the node's row and key, and the new row may stand in the place of the known one
abbrev pub KnowsRedefine : View → ℕ → Row → List ℕ → Type 0
KnowsRedefine v n row over = (old : Row) × (key : ℕ) × (known_key v n ≡ Some key) × MayRedefine v n key row over old

-- the row stands in the place of the known one
abbrev pub Redefines : Known → ℕ → Row → Known → Type 0
Redefines k n row new = (old : Row) × (known_row k.core n ≡ Some old) × (new ≡ with_view k (redefined k.core n old row))

-- the known row is free now
abbrev pub Frees : Known → ℕ → Known → Type 0
Frees k n new = (old : Row) × (known_row k.core n ≡ Some old) × (new ≡ with_view k (freed k.core n old))
