-- What a seat of a sound core shows by itself, and what each count is at least.
use Rattle.std.specs.Prelude.{◌≡◌, ◌≢◌, ℕ, ◌+◌, ◌<◌, ◌≤◌, Bool, true, false, length, slice_index, Some}
use mathlib.Core.Option.{some}
use lib.ListN.{get_elem?}
use Rattle.syn_rows.specs.declared.Row.{Row}
use Rattle.syn_rows.specs.declared.Row.TheVariants.{Free}
use Rattle.syn_core_laws.specs.declared.View.{View}
use Rattle.syn_rows.specs.Nodes.{has_node}
use Rattle.syn_core_laws.specs.Lists.{look}
use Rattle.syn_core_laws.specs.Views.{is_mine, known_row, is_derived_known, refs_known, own_refs, own_pins}
use Rattle.syn_core_laws.specs.Cores.{Core}
use Rattle.syn_core_laws.specs.Sound.{IsSound}

-- The known rows of the nodes below the bound have no circle: only the empty set has to each of its nodes another of the set whose known row refers to it.
abbrev pub HasNoCircle : ℕ → View → Type 0
HasNoCircle nodes v =
    (set : ℕ → Bool) → ((m : ℕ) → set m ≡ true → (n : ℕ) × (n < nodes) × (set n ≡ true) × (1 ≤ refs_known m (known_row v n)))
    → (m : ℕ) → set m ≡ false

-- the node is on the zero list rightly: it is known as `And` or `Alias`, and neither a known row nor a pin of the seat refers to it
abbrev pub IsUnreferred : ℕ → View → ℕ → Type 0
IsUnreferred nodes v n = (is_derived_known (known_row v n) ≡ true) × (own_refs nodes v n + own_pins v n ≡ 0)

-- what a seat shows by itself, among so many nodes
pub record IsShown (nodes : ℕ) (v : View) : Type 0 where
  pub no_circle : HasNoCircle nodes v
  -- no known row refers to a node that is known as free
  pub used : (n m : ℕ) → 1 ≤ refs_known m (known_row v n) → known_row v m ≢ Some Free
  -- nor is a pinned node known as free
  pub pinned : (n : ℕ) → has_node v.pins n ≡ true → known_row v n ≢ Some Free
  -- known rows are of held nodes, known keys of held or pinned ones
  pub rows : (n : ℕ) (r : Row) → known_row v n ≡ Some r → (n < nodes) × (has_node v.held n ≡ true)
  pub keys : (n key : ℕ) → look n v.keys ≡ Some key → is_mine v n ≡ true
  pub idles : (n : ℕ) → has_node v.idle n ≡ true → IsUnreferred nodes v n
  -- at most 512 pins
  pub few : length v.pins ≤ 512

-- each seat of a sound core shows this
abbrev pub SeatsAreShown : Type 0
SeatsAreShown = (c : Core) (id : ℕ) (v : View) → IsSound c → get_elem? c.seats id ≡ some v → IsShown (length c.rows) v

-- a count is at least a seat's own references and pins
abbrev pub CountsCoverSeats : Type 0
CountsCoverSeats = (c : Core) (id : ℕ) (v : View) (n : ℕ) → IsSound c → get_elem? c.seats id ≡ some v → own_refs (length c.rows) v n + own_pins v n ≤ slice_index c.counts n
