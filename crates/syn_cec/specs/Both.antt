-- Two graphs in one.
use Rattle.std.specs.Prelude.{◌≡◌, ◌+◌, ◌^◌, ◌<◌, ◌++◌, Bool, List, length}
use Rattle.syn_rows.specs.declared.TheConstants.{NODE_LIMIT}
use Rattle.syn_rows.specs.Values.{rows_function}
use Rattle.syn_graph.specs.declared.Graph.{Graph}

-- one graph has room for the rows of both, and for the observed literals of both
abbrev pub HaveRoom : Graph → Graph → Type 0
HaveRoom first second = (length first.rows + length second.rows < NODE_LIMIT) × (length first.observed + length second.observed < 2 ^ 31)

-- the graph observes what the first does, and then what the second does
abbrev pub ObservesBoth : Graph → Graph → Graph → Type 0
ObservesBoth first second g = (bits : List Bool) → rows_function g.rows g.observed bits ≡ rows_function first.rows first.observed bits ++ rows_function second.rows second.observed bits
