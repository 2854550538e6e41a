use Rattle.std.proofs.Common.{◌≡◌, ◌≤◌, [], All, length, drop, vec_len}
use Rattle.syn_rows.specs.Rows.{fold_rows}
use Rattle.syn_cuts.specs.Lists.{nontrivial}
use Rattle.syn_map.specs.Labels.{row_label}
use Rattle.syn_map.proofs.labels.labels.Given as goal

abbrev pub invariant-loop-n : goal.invariant-loop-n
invariant-loop-n l = record {
  left : fold_rows (row_label (nontrivial l.lists)) 0 l.labels.items (drop l.n l.rows) ≡ fold_rows (row_label (nontrivial l.lists)) 0 [] l.rows;
  count : vec_len l.labels ≡ l.n;
  same : length l.labels.items ≡ l.n;
  low : All (λ label. label ≤ length l.labels.items) l.labels.items;
}
