use Rattle.std.proofs.Common.{◌≡◌, ℕ, ◌&&◌, ◌||◌, length, drop}
use Rattle.syn_rows.specs.Reach.{is_and}
use Rattle.syn_rows.specs.Rows.{row_at}
use Rattle.syn_rows.specs.Values.{value_in}
use Rattle.syn_rows.specs.Nodes.{has_node}
use Rattle.syn_covering.proofs.needs.mark_all.Given as goal

abbrev pub invariant-loop-node : goal.invariant-loop-node
invariant-loop-node l = record {
  count : length l.marks ≡ length l.rows;
  marks : (m : ℕ) → (value_in l.marks m || (has_node (drop l.node-index l.nodes) m && is_and (row_at l.rows m))) ≡ (value_in l.initial.marks m || (has_node l.nodes m && is_and (row_at l.rows m)));
}
