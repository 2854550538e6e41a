-- Source rows of a graph of three sources.
use Rattle.std.proofs.Common.{◌≡◌, ◌≢◌, ℕ, ◌<◌, List}
use Rattle.syn_rows.specs.declared.Row.{Row}
use Rattle.syn_rows.specs.declared.Row.TheVariants.{Source}
use Rattle.syn_rows.specs.Rows.{row_at}

-- the node's row is a source's exactly where the node is node 0 or one of the three sources
abbrev pub SourceFits : List Row → ℕ → Type 0
SourceFits rows n = (n < 4 → row_at rows n ≡ Source) × (3 < n → row_at rows n ≢ Source)
