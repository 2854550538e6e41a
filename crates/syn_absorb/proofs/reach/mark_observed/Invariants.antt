use Rattle.std.proofs.Common.{◌≡◌, ℕ, ◌||◌, length, drop, map}
use Rattle.syn_rows.specs.Rows.{node_of}
use Rattle.syn_rows.specs.Nodes.{has_node}
use Rattle.syn_rows.specs.Values.{value_in}
use Rattle.syn_absorb.proofs.reach.mark_observed.Given as goal

abbrev pub invariant-loop-lit : goal.invariant-loop-lit
invariant-loop-lit l = record {
  count : length l.marks ≡ length l.initial.marks;
  marks : (m : ℕ) → (value_in l.marks m || has_node (map node_of (drop l.lit-index l.observed)) m) ≡ (value_in l.initial.marks m || has_node (map node_of l.observed) m);
}
