-- What contracts see of a shared table and of its seats.
use Rattle.std.specs.Prelude.{◌≡◌, ℕ}
use Rattle.syn_graph.specs.declared.Graph.{Graph}
use Rattle.syn_core_laws.specs.declared.View.{View}
use Rattle.syn_table.specs.declared.Known.{Known}
use Rattle.syn_table.specs.declared.Seat.{Seat}
use Rattle.syn_table.specs.declared.Shared.{Shared}

-- the graph that was opened
abbrev pub graph_of : Shared → Graph
graph_of shared = shared.table.shared.key.graph.value

-- the number of spare nodes behind the graph's
abbrev pub spare_of : Shared → ℕ
spare_of shared = shared.table.shared.key.spare

-- the number of nodes
abbrev pub nodes_of : Shared → ℕ
nodes_of shared = shared.nodes

-- the seat is one of this table
abbrev pub IsOf : Seat → Shared → Type 0
IsOf seat shared = seat.token.table_id ≡ shared.table.shared.table_id

-- what the seat knows
abbrev pub known_of : Seat → Known
known_of seat = seat.token.me.0

-- the core's part of it
abbrev pub view_of : Seat → View
view_of seat = (known_of seat).core
