-- What one graph is to another in whose place it is put.
use Rattle.std.specs.Prelude.{◌≡◌, ℕ, ◌+◌, ◌≤◌, Bool, List, length}
use Rattle.syn_rows.specs.Values.{rows_function}
use Rattle.syn_graph.specs.Graphs.{SourcesStay}
use Rattle.syn_graph.specs.declared.Graph.{Graph}

-- It has as many sources and observed literals, of the same values, and a literal of a source stays.
pub record SameFunction (was now : Graph) : Type 0 where
  pub sources : now.source_count ≡ was.source_count
  pub count : length now.observed ≡ length was.observed
  pub stay : SourcesStay was.source_count was.observed now.observed
  pub values : (bits : List Bool) → rows_function now.rows now.observed bits ≡ rows_function was.rows was.observed bits

-- The same, with fewer ANDs by at least so many.
pub record Follows (was : Graph) (gained : ℕ) (now : Graph) : Type 0 where
  pub same : SameFunction was now
  pub count : length now.rows + gained ≤ length was.rows

-- One graph's relation goes on to the next.
abbrev pub SameFunctionGoesOn : Type 0
SameFunctionGoesOn = (a b c : Graph) → SameFunction a b → SameFunction b c → SameFunction a c
