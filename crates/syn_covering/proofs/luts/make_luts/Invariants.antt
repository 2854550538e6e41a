use Rattle.std.proofs.Common.{◌≡◌, ℕ, ◌<◌, length}
use Rattle.syn_lutnet.specs.LutData.{lut_at}
use Rattle.syn_lutnet.specs.Data.{luts_data}
use Rattle.syn_covering.specs.Making.{IsLutOf}
use Rattle.syn_covering.specs.Mappings.{node_at}
use Rattle.syn_covering.proofs.luts.make_luts.Given as goal

abbrev pub invariant-loop-node : goal.invariant-loop-node
invariant-loop-node g l = record {
  long : length l.luts.items ≡ l.node-index;
  each : (j : ℕ) → j < l.node-index → IsLutOf (g.C.Choice.leaves l.choice) l.rows l.signals (node_at l.nodes j) (lut_at (luts_data l.luts.items) j);
}
