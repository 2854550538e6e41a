use Rattle.std.proofs.Common.{◌≡◌, ◌≢◌, ℕ, ◌<◌, drop, get_or}
use Rattle.syn_rows.specs.Nodes.{has_node}
use Rattle.syn_resub.proofs.nodes.place_of.Given as goal

abbrev pub invariant-loop-i : goal.invariant-loop-i
invariant-loop-i l = record {
  rest : has_node (drop l.i l.nodes) l.node ≡ has_node l.nodes l.node;
  before : (k : ℕ) → k < l.i → get_or l.nodes k 0 ≢ l.node;
}
