-- What a plan becomes by any look-up of the rows that are there.
use Rattle.std.specs.Prelude.{◌≡◌, ℕ, ◌+◌, ◌<◌, ◌≤◌, All, List, length, Option, None}
use Rattle.syn_rows.specs.declared.Lit.{Lit}
use Rattle.syn_rows.specs.declared.Row.{Row}
use Rattle.syn_rows.specs.declared.TheConstants.{NODE_LIMIT}
use Rattle.syn_rows.specs.Rows.{node_of, row_at, AllRefs, InOrder}
use Rattle.syn_hashed.specs.declared.pairs.PairIndex.{PairIndex}
use Rattle.syn_hashed.specs.Indexed.{IsIndexOf}
use Rattle.syn_hashed.specs.Joined.{PairsOnce}

-- A function gives what a look-up finds: its right answers, and none for a pair with a new row's literal.
pub record Gives (finds : Lit → Lit → Option Lit → Type 0) (first : ℕ) (f : Lit → Lit → Option Lit) : Type 0 where
  pub right : (x y : Lit) (found : Option Lit) → finds x y found → found ≡ f x y
  pub first_old : (x y : Lit) → first ≤ node_of x → f x y ≡ None
  pub second_old : (x y : Lit) → first ≤ node_of y → f x y ≡ None

-- New rows, numbered from `first` on, name nodes before them.
abbrev pub AreNewRows : ℕ → List Row → Type 0
AreNewRows first extra = (i : ℕ) → AllRefs (λ m. m < first + i) (row_at extra i)

-- Literals name nodes that are there or new ones, and new rows nodes before them.
pub record ArePlaced (first : ℕ) (literals : List Lit) (extra : List Row) : Type 0 where
  pub some : 0 < first
  pub few : first ≤ NODE_LIMIT
  pub literals_there : All (λ l. node_of l < first + length extra) literals
  pub rows_new : AreNewRows first extra

-- What makes a look-up below a root right: the index is that of the rows, in which each pair stands once.
pub record AreRowsBelow (rows : List Row) (pairs : PairIndex) (root : ℕ) : Type 0 where
  pub indexed : IsIndexOf rows pairs
  pub once : PairsOnce rows
  pub order : InOrder rows
  pub few : length rows < NODE_LIMIT
  pub within : root ≤ length rows
