use Rattle.std.proofs.Common.{◌≡◌, ◌≤◌, length, vec_len, vec_capacity}
use Rattle.std.specs.Mem.Slots.{slots_items}
use Rattle.syn_table.specs.Closing.{ReadsBack}
use Rattle.syn_table.proofs.closed.read_rows.Given as goal

abbrev pub invariant-loop-node : goal.invariant-loop-node
invariant-loop-node l = record {
  count : length l.rows.items ≡ l.node;
  len : vec_len l.rows ≡ l.node;
  room : l.nodes ≤ vec_capacity l.rows;
  back : ReadsBack (slots_items l.closed.words) l.rows.items;
}
