-- Graphs: node 0 is the constant 0, then come the sources, then ANDs of smaller nodes (an and-inverter graph).
use Rattle.std.specs.Prelude.{◌≡◌, ℕ, ◌+◌, ◌*◌, ◌<◌, true, All, List, length}
use Rattle.syn_rows.specs.declared.Lit.{Lit}
use Rattle.syn_rows.specs.declared.Row.{Row}
use Rattle.syn_rows.specs.Rows.{node_of}
use Rattle.syn_rows.specs.Reach.{Reached}
use Rattle.syn_hashed.specs.Hashed.{IsHashed, lit_at}
use Rattle.syn_netlist.specs.Words.{has_word}
use Rattle.syn_netlist.specs.Lists.{Frame, sources, observed}
use Rattle.syn_netlist.specs.Numbers.{word_at}
use Rattle.syn_network.specs.GraphShape.{place}

-- the plain literal of the source at a place from 0
abbrev pub source_lit : ℕ → Lit
source_lit i = record { 0 = 2 * (i + 1) }

-- A graph of a frame: hashed rows over its sources, and one literal for each observed signal, in their order, of a node that is there; a signal that is a source has that source's plain literal; every AND is reached.
pub record IsNamedGraph (frame : Frame) (rows : List Row) (lits : List Lit) : Type 0 where
  pub hashed : IsHashed (length (sources frame)) rows
  pub count : length lits ≡ length (observed frame)
  pub within : All (λ l. node_of l < length rows) lits
  pub own : (i : ℕ) → i < length lits → has_word (sources frame) (word_at (observed frame) i) ≡ true → lit_at lits i ≡ source_lit (place (word_at (observed frame) i) (sources frame))
  pub reached : (n : ℕ) → length (sources frame) < n → n < length rows → Reached rows lits n
