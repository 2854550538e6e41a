-- The state at the start.
use Rattle.std.specs.Prelude.{◌≡◌, ◌≢◌, ℕ, zero, suc, ◌+◌, ◌≤◌, List, [], ◌∷◌, ◌++◌, length, replicate, slice_index, slice_index_or, pos, ⊤}
use Rattle.syn_rows.specs.declared.Row.{Row}
use Rattle.syn_rows.specs.declared.Row.TheVariants.{Free, Source}
use Rattle.syn_rows.specs.declared.Lit.{Lit}
use Rattle.syn_rows.specs.Rows.{row_at, node_of}
use Rattle.syn_rows.specs.References.{refs_by_rows, refs_by_literals}
use Rattle.syn_core_laws.specs.declared.View.{View}
use Rattle.syn_core_laws.specs.Cores.{Core}
use Rattle.syn_core_laws.specs.Sound.{RowRests, IsSound}

-- each literal goes to a row that is there
abbrev pub AllThere : List Row → List Lit → Type 0
AllThere rows [] = ⊤
AllThere rows (l ∷ ls) = (row_at rows (node_of l) ≢ Free) × AllThere rows ls

-- rows of a graph, with keys that rise along references
pub record IsStart (rows : List Row) (observed : List Lit) (keys : List ℕ) : Type 0 where
  -- a key for each row
  pub count : length keys ≡ length rows
  -- node 0 is there, and the sources and it have key 0
  pub constant : row_at rows 0 ≡ Source
  pub source_keys : (n : ℕ) → row_at rows n ≡ Source → slice_index keys n ≡ 0
  -- each literal of a row and each observed one goes to a row that is there; a row's nodes have smaller keys
  pub rests : (n : ℕ) → RowRests rows keys n (row_at rows n)
  pub observes : AllThere rows observed

-- what a seat knows at first
abbrev pub empty_view : ℕ → View
empty_view number = record { number = number; held = []; rows = []; keys = []; pins = []; idle = []; misses = []; reads = []; changes = []; makes = []; difference = pos 0; sole = [] }

-- as many seats, numbered from `first`
abbrev pub seats_from : ℕ → ℕ → List View
seats_from first zero = []
seats_from first (suc more) = empty_view first ∷ seats_from (suc first) more

-- the references to each of the nodes first, first + 1, ..
abbrev pub counts_from : List Row → List Lit → ℕ → ℕ → List ℕ
counts_from rows observed first zero = []
counts_from rows observed first (suc more) = (refs_by_rows first rows + refs_by_literals first observed) ∷ counts_from rows observed (suc first) more

-- the state of these rows: nothing is claimed, each count is the node's references, and the seats know nothing
abbrev pub opened : List Row → List Lit → List ℕ → ℕ → Core
opened rows observed keys seats = record {
  claims = replicate (length rows) 0;
  rows = rows;
  counts = counts_from rows observed 0 (length rows);
  keys = keys;
  observed = observed;
  opening = rows;
  seats = seats_from 0 seats;
}

-- the graph's rows, and spare ones
abbrev pub opening_of : List Row → List Lit → List ℕ → ℕ → ℕ → Core
opening_of rows observed keys spare seats = opened (rows ++ replicate spare Free) observed (keys ++ replicate spare 0) seats

-- the start of a graph is sound, with up to 64 seats
abbrev pub OpeningsAreSound : Type 0
OpeningsAreSound = (rows : List Row) (observed : List Lit) (keys : List ℕ) (spare seats : ℕ) → IsStart rows observed keys → seats ≤ 64 → IsSound (opening_of rows observed keys spare seats)

-- the view of a seat; where the state doesn't have the seat, one without a number
abbrev pub view_at : Core → ℕ → View
view_at c id = slice_index_or c.seats id (empty_view 64)
