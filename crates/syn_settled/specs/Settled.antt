-- LUT nets that are settled: what they keep of the net that they were.
use Rattle.std.specs.Prelude.{◌≡◌, ℕ, ◌+◌, ◌≤◌, true, length}
use Rattle.syn_lutnet.specs.LutData.{net_depth, none_exceeds}
use Rattle.syn_lutnet.specs.declared.nets.LutNet.{LutNet}
use Rattle.syn_lutnet.specs.Data.{luts_data}
use Rattle.syn_absorb.specs.Costs.{NeverFalls, cost_by}
use Rattle.syn_absorb.specs.Flips.{AllShown, MostShown}
use Rattle.syn_absorb.specs.Needed.{AllDepend}
use Rattle.syn_absorb.specs.Nets.{KeepsFunction}

-- A net of the same function, with no more LUTs, no deeper, of no more inputs, and no dearer where LUTs of more inputs cost no less, each LUT of which depends on all that it reads, none of which more literals observe complemented than plain, and none only complemented.
pub record IsSettled (was now : LutNet) : Type 0 where
  pub same : KeepsFunction was now
  pub fewer : length now.luts ≤ length was.luts
  pub depth : net_depth now.source_count (luts_data now.luts) ≤ net_depth was.source_count (luts_data was.luts)
  pub inputs : (k : ℕ) → none_exceeds k (luts_data was.luts) ≡ true → none_exceeds k (luts_data now.luts) ≡ true
  pub cheaper : (cost : ℕ → ℕ) → NeverFalls cost → cost_by cost (luts_data now.luts) ≤ cost_by cost (luts_data was.luts)
  pub depend : AllDepend (luts_data now.luts)
  pub most : MostShown (now.source_count + 1) now.observed
  pub shown : AllShown (now.source_count + 1) now.observed
