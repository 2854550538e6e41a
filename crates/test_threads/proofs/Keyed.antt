-- Keys that fit each row.
use Rattle.std.proofs.Common.{◌≡◌, ℕ, ◌<◌, List, slice_index}
use Rattle.syn_rows.specs.declared.Row.{Row}
use Rattle.syn_rows.specs.declared.Row.TheVariants.{Source}
use Rattle.syn_rows.specs.Rows.{AllRefs, row_at}

-- the node's row may have its key
abbrev pub RowFits : List Row → List ℕ → ℕ → Type 0
RowFits rows keys n = (row_at rows n ≡ Source → slice_index keys n ≡ 0) × AllRefs (λ m. slice_index keys m < slice_index keys n) (row_at rows n)
