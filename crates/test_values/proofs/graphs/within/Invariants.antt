use Rattle.std.proofs.Common.{ℕ, ◌<◌, ◌≤◌, All, length}
use Rattle.syn_rows.specs.Rows.{node_of}
use Rattle.test_values.proofs.graphs.within.Given as goal

abbrev pub invariant-loop-place : goal.invariant-loop-place
invariant-loop-place l = record {
  within : All (λ x. node_of x < l.count) l.lits.items;
  few : length l.lits.items ≤ l.place;
}
