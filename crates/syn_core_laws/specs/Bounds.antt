-- What a seat may reach is there, and every word of a sound core fits its type.
use Rattle.std.specs.Prelude.{◌≡◌, ◌⊎◌, ℕ, ◌+◌, ◌<◌, ◌≤◌, ◌^◌, true, [], length, slice_index}
use Rattle.syn_rows.specs.declared.TheConstants.{NODE_LIMIT}
use mathlib.Core.Option.{some}
use lib.ListN.{get_elem?}
use Rattle.syn_rows.specs.Rows.{row_at}
use Rattle.syn_rows.specs.Packing.{Packs}
use Rattle.syn_core_laws.specs.declared.View.{View}
use Rattle.syn_rows.specs.Nodes.{has_node}
use Rattle.syn_core_laws.specs.Cores.{Core}
use Rattle.syn_core_laws.specs.Events.{MayPin}
use Rattle.syn_core_laws.specs.Sound.{IsSound}

-- what a seat holds, has pinned or may pin is a node of the state
abbrev pub NodesAreThere : Type 0
NodesAreThere = (c : Core) (id : ℕ) (v : View) (n : ℕ) → IsSound c → get_elem? c.seats id ≡ some v → (has_node v.held n ≡ true) ⊎ MayPin v n → n < length c.rows

-- each row can be packed into a word
abbrev pub RowsPack : Type 0
RowsPack = (c : Core) (n : ℕ) → IsSound c → length c.rows < NODE_LIMIT → Packs (row_at c.rows n)

-- sizes that let every count fit 32 bits; a spent seat has no pins
pub record IsSmall (c : Core) : Type 0 where
  pub nodes : length c.rows < NODE_LIMIT
  pub literals : length c.observed < 2 ^ 30
  pub spent : (id : ℕ) (v : View) → get_elem? c.seats id ≡ some v → 64 ≤ v.number → v.pins ≡ []

-- a count leaves room for one reference more, however many seats have come and gone
abbrev pub CountsFit : Type 0
CountsFit = (c : Core) (n : ℕ) → IsSound c → IsSmall c → slice_index c.counts n + 1 < 2 ^ 32
