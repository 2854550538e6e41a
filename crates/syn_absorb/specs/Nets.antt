-- LUT nets in place of others of the same function: after inputs without use are gone, and after complements move into the LUTs.
use Rattle.std.specs.Prelude.{◌≡◌, ℕ, ◌+◌, ◌≤◌, Bool, true, List, length, map}
use Rattle.syn_rows.specs.Rows.{node_of}
use Rattle.syn_graph.specs.Graphs.{SourcesStay}
use Rattle.syn_lutnet.specs.LutData.{luts_function, net_depth, none_exceeds}
use Rattle.syn_lutnet.specs.declared.nets.LutNet.{LutNet}
use Rattle.syn_lutnet.specs.Data.{luts_data}
use Rattle.syn_absorb.specs.Costs.{NeverFalls, cost_by}
use Rattle.syn_absorb.specs.Flips.{AreFlipped, AllShown, MostShown, is_flipped}
use Rattle.syn_absorb.specs.Needed.{AllDepend}

-- A net has as many sources and observed literals as one before it, of the same values, and a literal of a source stays.
pub record KeepsFunction (was now : LutNet) : Type 0 where
  pub sources : now.source_count ≡ was.source_count
  pub count : length now.observed ≡ length was.observed
  pub stay : SourcesStay was.source_count was.observed now.observed
  pub values : (bits : List Bool) → length bits ≡ was.source_count → luts_function (luts_data now.luts) now.observed bits ≡ luts_function (luts_data was.luts) was.observed bits

-- The same function of the sources, and as deep; LUT by LUT the same inputs, and the LUTs that more literals observed complemented than plain are the complements, read so by the others; the same signals are observed, no LUT by more literals complemented than plain, and none only complemented; where each LUT depended on all that it reads, it still does.
pub record IsAbsorbed (was now : LutNet) : Type 0 where
  pub same : KeepsFunction was now
  pub luts : AreFlipped (is_flipped (was.source_count + 1) was.observed) (was.source_count + 1) (luts_data was.luts) (luts_data now.luts)
  pub nodes : map node_of now.observed ≡ map node_of was.observed
  pub depth : net_depth now.source_count (luts_data now.luts) ≡ net_depth was.source_count (luts_data was.luts)
  pub inputs : (k : ℕ) → none_exceeds k (luts_data now.luts) ≡ none_exceeds k (luts_data was.luts)
  pub most : MostShown (was.source_count + 1) now.observed
  pub shown : AllShown (was.source_count + 1) now.observed
  pub depend : AllDepend (luts_data was.luts) → AllDepend (luts_data now.luts)

-- The same function of the sources, no more LUTs, no deeper, of no more inputs, no dearer where LUTs of more inputs cost no less, and each LUT depends on all that it reads.
pub record IsTrimmed (was now : LutNet) : Type 0 where
  pub same : KeepsFunction was now
  pub fewer : length now.luts ≤ length was.luts
  pub depth : net_depth now.source_count (luts_data now.luts) ≤ net_depth was.source_count (luts_data was.luts)
  pub inputs : (k : ℕ) → none_exceeds k (luts_data was.luts) ≡ true → none_exceeds k (luts_data now.luts) ≡ true
  pub cheaper : (cost : ℕ → ℕ) → NeverFalls cost → cost_by cost (luts_data now.luts) ≤ cost_by cost (luts_data was.luts)
  pub depend : AllDepend (luts_data now.luts)
