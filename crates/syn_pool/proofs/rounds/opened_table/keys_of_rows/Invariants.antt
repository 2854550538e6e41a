use Rattle.std.proofs.Common.{◌≡◌, ℕ, length, slice_index, ◌<◌}
use Rattle.syn_rows.specs.Rows.{row_at}
use Rattle.syn_pool.specs.Keys.{key_of_row}
use Rattle.syn_pool.proofs.rounds.opened_table.keys_of_rows.Given as goal

abbrev pub invariant-loop-node : goal.invariant-loop-node
invariant-loop-node l = record {
  count : length l.keys.items ≡ l.node;
  each : (n : ℕ) → n < l.node → slice_index l.keys.items n ≡ key_of_row n (row_at l.rows n);
}
