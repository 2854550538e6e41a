-- What a table is opened with.
use Rattle.std.specs.Prelude.{◌≡◌, ℕ, List, ◌++◌, length, replicate, slice_index}
use Rattle.syn_rows.specs.declared.Row.{Row}
use Rattle.syn_rows.specs.declared.Row.TheVariants.{Free, Source}
use Rattle.syn_rows.specs.declared.Lit.{Lit}
use Rattle.syn_rows.specs.Rows.{row_at, Rises}
use Rattle.syn_table.specs.declared.Opening.{Opening}

-- keys for the rows: one for each, 0 for node 0 and the sources, rising along references
pub record AreKeys (rows : List Row) (keys : List ℕ) : Type 0 where
  pub count : length keys ≡ length rows
  pub sources : (n : ℕ) → row_at rows n ≡ Source → slice_index keys n ≡ 0
  pub rise : Rises rows (λ n. slice_index keys n)

-- the rows, with so many free ones behind them
abbrev pub with_spare : List Row → ℕ → List Row
with_spare rows spare = rows ++ replicate spare Free

-- the rows at the start: the graph's, and spare ones
abbrev pub opened_rows : Opening → List Row
opened_rows opening = with_spare opening.graph.value.rows opening.spare

-- the literals whose values are kept: the graph's
abbrev pub opened_literals : Opening → List Lit
opened_literals opening = opening.graph.value.observed
