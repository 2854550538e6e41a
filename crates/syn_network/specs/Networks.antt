-- Where names and graphs meet.
use Rattle.std.specs.Prelude.{◌≡◌, ℕ, ◌<◌, true, List, length}
use Rattle.syn_rows.specs.declared.Lit.{Lit}
use Rattle.syn_hashed.specs.Hashed.{lit_at}
use Rattle.syn_netlist.specs.Words.{has_word}
use Rattle.syn_netlist.specs.Lists.{Frame, sources, observed}
use Rattle.syn_netlist.specs.Numbers.{word_at}
use Rattle.syn_network.specs.GraphShape.{place}
use Rattle.syn_network.specs.NamedGraphs.{source_lit}

-- an observed signal that is a source has that source's plain literal
abbrev pub HasOwnSources : Frame → List Lit → Type 0
HasOwnSources frame lits = (i : ℕ) → i < length lits → has_word (sources frame) (word_at (observed frame) i) ≡ true → lit_at lits i ≡ source_lit (place (word_at (observed frame) i) (sources frame))

-- The names fit: as many sources and observed signals as the frame has, and each observed source has its own literal.
pub record IsNamed (frame : Frame) (count : ℕ) (lits : List Lit) : Type 0 where
  pub sources_are : count ≡ length (sources frame)
  pub observed_are : length lits ≡ length (observed frame)
  pub own : HasOwnSources frame lits
