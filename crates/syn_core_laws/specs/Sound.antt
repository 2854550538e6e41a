-- What is true between any two events.
use Rattle.std.specs.Prelude.{◌≡◌, ◌≢◌, ℕ, suc, ◌+◌, ◌<◌, ◌≤◌, Bool, true, List, [], ◌∷◌, length, slice_index, Some, pos, ◌+ℤ◌}
use mathlib.Core.Option.{some}
use lib.ListN.{get_elem?}
use Rattle.syn_rows.specs.declared.Row.{Row}
use Rattle.syn_rows.specs.declared.Row.TheVariants.{Free, Source}
use Rattle.syn_rows.specs.declared.Lit.{Lit}
use Rattle.syn_rows.specs.Rows.{row_at, AllRefs, is_derived}
use Rattle.syn_rows.specs.Values.{lit_value, Fits, SameSources}
use Rattle.syn_rows.specs.References.{refs_by_rows, refs_by_literals, all_ands}
use Rattle.syn_core_laws.specs.declared.View.{View}
use Rattle.syn_rows.specs.Nodes.{has_node}
use Rattle.syn_core_laws.specs.Lists.{look}
use Rattle.syn_core_laws.specs.Views.{is_mine, known_row, own_refs, own_pins}
use Rattle.syn_core_laws.specs.Cores.{Core, all_pins, differences}

-- each literal of the row goes to a node that is there, with a smaller key than n's
abbrev pub RowRests : List Row → List ℕ → ℕ → Row → Type 0
RowRests rows keys n row = AllRefs (λ m. (row_at rows m ≢ Free) × (slice_index keys m < slice_index keys n)) row

-- the two valuations give the literals the same values
abbrev pub Agree : List Lit → (ℕ → Bool) → (ℕ → Bool) → Type 0
Agree [] v w = Unit {0}
Agree (l ∷ ls) v w = (lit_value v l ≡ lit_value w l) × Agree ls v w

-- the seat knows the node as `And` or `Alias`
abbrev pub KnowsDerived : View → ℕ → Type 0
KnowsDerived v n = (r : Row) × (known_row v n ≡ Some r) × (is_derived r ≡ true)

-- what is true of a seat, by the words
pub record IsSeatSound (claims : List ℕ) (rows : List Row) (counts keys : List ℕ) (v : View) : Type 0 where
  -- a claim is the seat's number plus 1 exactly where the seat holds the node
  pub holds : (n : ℕ) → has_node v.held n ≡ true → slice_index claims n ≡ suc v.number
  pub holder : v.number < 64 → (n : ℕ) → slice_index claims n ≡ suc v.number → has_node v.held n ≡ true
  -- known rows are of held nodes, known keys of held or pinned ones, and both are the words
  pub knows_rows : (n : ℕ) (r : Row) → known_row v n ≡ Some r → (has_node v.held n ≡ true) × (row_at rows n ≡ r)
  pub knows_keys : (n k : ℕ) → look n v.keys ≡ Some k → (is_mine v n ≡ true) × (slice_index keys n ≡ k)
  -- a node on the zero list is held, known as `And` or `Alias`, and has count 0
  pub idles : (n : ℕ) → has_node v.idle n ≡ true → KnowsDerived v n × (slice_index counts n ≡ 0)
  -- at most 512 pins
  pub few : length v.pins ≤ 512
  -- a sole node is held and isn't node 0, and only this seat refers to it
  pub soles : (n : ℕ) → has_node v.sole n ≡ true → (has_node v.held n ≡ true) × (n ≢ 0) × (slice_index counts n ≡ own_refs (length rows) v n + own_pins v n)

-- what is true of the core between any two events
pub record IsSound (c : Core) : Type 0 where
  -- a word of each kind for each node
  pub claims_count : length c.claims ≡ length c.rows
  pub counts_count : length c.counts ≡ length c.rows
  pub keys_count : length c.keys ≡ length c.rows
  -- seats that have a number have different ones
  pub apart : (i j : ℕ) (v w : View) → get_elem? c.seats i ≡ some v → get_elem? c.seats j ≡ some w → v.number ≡ w.number → v.number < 64 → i ≡ j
  -- a claim is of some seat that holds the node
  pub claimant : (n : ℕ) → slice_index c.claims n ≢ 0 → (id : ℕ) × (v : View) × (get_elem? c.seats id ≡ some v) × (has_node v.held n ≡ true)
  -- node 0 and the sources are `Source` with key 0, and no other row is; a `Free` row has count 0
  pub constant : row_at c.rows 0 ≡ Source
  pub source_stays : (n : ℕ) → row_at c.opening n ≡ Source → row_at c.rows n ≡ Source
  pub source_was : (n : ℕ) → row_at c.rows n ≡ Source → row_at c.opening n ≡ Source
  pub source_keys : (n : ℕ) → row_at c.rows n ≡ Source → slice_index c.keys n ≡ 0
  pub unused : (n : ℕ) → row_at c.rows n ≡ Free → slice_index c.counts n ≡ 0
  -- each literal of a row goes to a node whose row isn't `Free` and whose key is smaller
  pub rests : (n : ℕ) → RowRests c.rows c.keys n (row_at c.rows n)
  -- each count is the references by rows, by observed literals and by all seats' pins
  pub counted : (n : ℕ) → slice_index c.counts n ≡ refs_by_rows n c.rows + refs_by_literals n c.observed + all_pins n c.seats
  -- for all source values the observed values are those of the opening
  pub values : (v w : ℕ → Bool) → Fits c.rows v → Fits c.opening w → SameSources c.opening v w → Agree c.observed v w
  -- the `And` rows number those of the opening plus the seats' differences
  pub and_rows : pos (all_ands c.rows) ≡ pos (all_ands c.opening) +ℤ differences c.seats
  -- what is true of each seat
  pub seats : (id : ℕ) (v : View) → get_elem? c.seats id ≡ some v → IsSeatSound c.claims c.rows c.counts c.keys v
