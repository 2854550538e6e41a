-- The hints of a commit, one at a time: a node's row is loaded, and its key where the row is the pair of a gate.
use Rattle.std.specs.Prelude.{◌≡◌, ◌≢◌, ℕ, ◌<◌, ◌≤◌, if◌then◌else◌, Bool, true, List, [], ◌∷◌, ◌++◌, length, Some}
use Rattle.syn_rows.specs.declared.Row.{Row}
use Rattle.syn_core_laws.specs.declared.View.{View}
use Rattle.syn_core_laws.specs.declared.Seen.{Seen}
use Rattle.syn_core_laws.specs.Views.{known_key, known_row}
use Rattle.syn_decide.specs.declared.decisions.NodeRow.{NodeRow}
use Rattle.syn_decide.specs.Tasks.{Task}
use Rattle.syn_decide.specs.Fold.{State, after_reads, is_hinting, placed_now}
use Rattle.syn_decide.specs.Hints.{is_asked, most_hits}
use Rattle.syn_commit.specs.Keyed.{KeyAtMost}
use Rattle.syn_commit.specs.Pools.{found_claimed}
use Rattle.syn_commit.specs.Stages.{IsTrying}

-- a hint may be tried for the pair: the stage takes hints, there is room for a hit, and the pair is asked for
pub record IsOpen (t : Task) (s : State) (pair : Row) : Type 0 where
  pub stage : is_hinting s.stage ≡ true
  pub room : length s.hits < most_hits
  pub asked : is_asked (placed_now t s).extra pair ≡ true

-- the hits after a hint
abbrev pub hits_after : List NodeRow → ℕ → Row → Bool → List NodeRow
hits_after hits n pair hit = if hit then hits ++ record { node = n; row = pair } ∷ [] else hits

-- The row of a held node was loaded and read, and its key too where the row is the pair: so the node is a hit or not.
pub record IsHint (t : Task) (n : ℕ) (pair : Row) (v : View) (s : State) (w : View) (z : State) (hit : Bool) : Type 0 where
  pub met : List Seen
  pub reads : w.reads ≡ v.reads ++ met
  pub claims : found_claimed met ≡ []
  pub state : z ≡ after_reads t s met
  pub misses : w.misses ≡ v.misses
  pub number : w.number ≡ v.number
  pub held : w.held ≡ v.held
  pub pins : w.pins ≡ v.pins
  pub idle : w.idle ≡ v.idle
  pub makes : w.makes ≡ v.makes
  pub changes : w.changes ≡ v.changes
  pub difference : w.difference ≡ v.difference
  -- other rows are known as before, and a row that was known stays
  pub others : (m : ℕ) → m ≢ n → known_row w m ≡ known_row v m
  pub again : (r : Row) → known_row v n ≡ Some r → known_row w n ≡ Some r
  pub own : hit ≡ true → known_row w n ≡ Some pair
  -- so are other keys, and a hit's own is known and at most low
  pub keys : (m : ℕ) → m ≢ n → known_key w m ≡ known_key v m
  pub key : hit ≡ true → KeyAtMost w z.low n
  -- low doesn't fall, and the root's key stays
  pub low : s.low ≤ z.low
  pub high : z.high ≡ s.high
  pub inner : z.inner ≡ s.inner
  pub hits : z.hits ≡ hits_after s.hits n pair hit
  pub stage : is_hinting z.stage ≡ true

-- A commit on the way, at the stage that takes hints.
pub record IsHinting (t : Task) (start : View) (pool pins : List ℕ) (v : View) (s : State) : Type 0 where
  pub trying : IsTrying t start pool pins v s
  pub stage : is_hinting s.stage ≡ true
