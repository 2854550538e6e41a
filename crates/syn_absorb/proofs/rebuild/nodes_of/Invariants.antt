use Rattle.std.proofs.Common.{◌≡◌, ◌++◌, map, drop}
use Rattle.arrayvec.specs.ArrayVec.{array_vec_len}
use Rattle.syn_rows.specs.Rows.{node_of}
use Rattle.syn_hashed.specs.Hashed.{lit_at}
use Rattle.syn_absorb.proofs.rebuild.nodes_of.Given as goal

abbrev pub invariant-loop-signal : goal.invariant-loop-signal
invariant-loop-signal l = record {
  left : l.nodes.items ++ map (λ m. node_of (lit_at l.lits m)) (drop l.signal-index l.signals) ≡ map (λ m. node_of (lit_at l.lits m)) l.signals;
  count : array_vec_len l.nodes ≡ l.signal-index;
}
