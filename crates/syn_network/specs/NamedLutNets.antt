-- LUT nets under names.
use Rattle.std.specs.Prelude.{◌≡◌, ℕ, ◌+◌, ◌<◌, true, All, List, length}
use Rattle.syn_rows.specs.declared.Lit.{Lit}
use Rattle.syn_rows.specs.Rows.{node_of}
use Rattle.syn_hashed.specs.Hashed.{lit_at}
use Rattle.syn_netlist.specs.Words.{has_word}
use Rattle.syn_netlist.specs.Lists.{Frame, sources, observed}
use Rattle.syn_netlist.specs.Numbers.{word_at}
use Rattle.syn_lutnet.specs.LutData.{Lut, Reached, is_lut, lut_at}
use Rattle.syn_network.specs.GraphShape.{place}
use Rattle.syn_network.specs.NamedGraphs.{source_lit}

-- A LUT net of a frame: each LUT is one of its signal; one literal for each observed signal, in their order, of a signal that is there; an observed source has its own plain literal; every LUT is reached.
pub record IsNamedLutNet (frame : Frame) (luts : List Lut) (lits : List Lit) : Type 0 where
  pub luts_fit : (j : ℕ) → j < length luts → is_lut (length (sources frame) + 1 + j) (lut_at luts j) ≡ true
  pub count : length lits ≡ length (observed frame)
  pub within : All (λ l. node_of l < length (sources frame) + 1 + length luts) lits
  pub own : (i : ℕ) → i < length lits → has_word (sources frame) (word_at (observed frame) i) ≡ true → lit_at lits i ≡ source_lit (place (word_at (observed frame) i) (sources frame))
  pub reached : (j : ℕ) → j < length luts → Reached (length (sources frame) + 1) luts lits (length (sources frame) + 1 + j)
