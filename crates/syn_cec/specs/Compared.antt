-- How two graphs compare that have as many sources and as many observed literals.
use Rattle.std.specs.Prelude.{◌≡◌, ◌≢◌, ℕ, ◌<◌, ◌≤◌, Bool, false, List, length, slice_index_or}
use Rattle.syn_rows.specs.Values.{rows_function}
use Rattle.syn_graph.specs.declared.Graph.{Graph}
use Rattle.syn_cec.specs.declared.equality.Equality.{Equality}
use Rattle.syn_cec.specs.declared.equality.Equality.TheVariants.{Equivalent, Different, Undecided}

-- for these values of the sources both graphs' observed literals have the same values
abbrev pub SameAt : Graph → Graph → List Bool → Type 0
SameAt first second bits = rows_function first.rows first.observed bits ≡ rows_function second.rows second.observed bits

-- for these values of the sources the observed literals at a place have different values
abbrev pub DiffersAt : Graph → Graph → List Bool → ℕ → Type 0
DiffersAt first second bits signal =
    (signal < length first.observed)
    × (slice_index_or (rows_function first.rows first.observed bits) signal false ≢ slice_index_or (rows_function second.rows second.observed bits) signal false)

-- Equivalent: the same values for all values of the sources. Different: not at this place for these. Undecided: some of the places were left, and there are more than 12 sources.
abbrev pub IsCompared : Graph → Graph → Equality → Type 0
IsCompared first second Equivalent = (bits : List Bool) → SameAt first second bits
IsCompared first second (Different signal values) = (length values.items ≡ first.source_count) × DiffersAt first second values.items signal
IsCompared first second (Undecided signals) = (0 < signals) × (signals ≤ length first.observed) × (12 < first.source_count)
