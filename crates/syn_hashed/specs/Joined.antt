-- What two literals become in rows to which they are joined: the literal of their AND, and the rows afterwards.
use Rattle.std.specs.Prelude.{◌≡◌, ℕ, zero, suc, ◌<◌, if◌then◌else◌, List, [], ◌∷◌, ◌++◌, length, Option, Some, None}
use Rattle.syn_rows.specs.declared.Lit.{Lit}
use Rattle.syn_rows.specs.declared.Row.{Row}
use Rattle.syn_rows.specs.declared.Row.TheVariants.{Source, And}
use Rattle.syn_rows.specs.Rows.{row_at}
use Rattle.syn_rows.specs.Joining.{lit_of, simple_and, is_and_of, ordered_and}

-- Each pair stands once: node 0 is no AND, each AND has its smaller literal first, and no two are of one pair.
pub record PairsOnce (rows : List Row) : Type 0 where
  pub constant : row_at rows 0 ≡ Source
  pub ordered : (n : ℕ) (a b : Lit) → row_at rows n ≡ And a b → a.0 < b.0
  pub once : (m n : ℕ) (a b : Lit) → row_at rows m ≡ And a b → row_at rows n ≡ And a b → m ≡ n

-- the first of the two that is there
abbrev pub or_else : Option Lit → Option Lit → Option Lit
or_else (Some l) other = Some l
or_else None other = other

-- the plain literal of the last row below a bound that is the AND of x and y, in either order, if there is one
abbrev pub literal_below : List Row → ℕ → Lit → Lit → Option Lit
literal_below rows zero x y = None
literal_below rows (suc n) x y = if is_and_of x y (row_at rows n) then Some (lit_of n) else literal_below rows n x y

-- the literal of the AND of x and y where no row has to be made: it needs none, or a row of the two is there
abbrev pub literal_there : List Row → Lit → Lit → Option Lit
literal_there rows x y = or_else (simple_and x y) (literal_below rows (length rows) x y)

-- that literal, or else the literal of a new row
abbrev pub lit_or_new : List Row → Option Lit → Lit
lit_or_new rows (Some l) = l
lit_or_new rows None = lit_of (length rows)

-- the same rows, or else with a new row behind them
abbrev pub rows_or_new : List Row → Row → Option Lit → List Row
rows_or_new rows row (Some l) = rows
rows_or_new rows row None = rows ++ row ∷ []

-- the literal of the AND of x and y
abbrev pub joined_lit : List Row → Lit → Lit → Lit
joined_lit rows x y = lit_or_new rows (literal_there rows x y)

-- The rows afterwards: one more for a pair that needs a row and has none, its smaller literal first; else the same.
abbrev pub joined_rows : List Row → Lit → Lit → List Row
joined_rows rows x y = rows_or_new rows (ordered_and x y) (literal_there rows x y)
