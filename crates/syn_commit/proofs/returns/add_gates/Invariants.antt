use Rattle.std.proofs.Common.{◌≡◌, ◌+◌, ◌≤◌, drop, length}
use Rattle.syn_commit.specs.Giving.{with_gates}
use Rattle.syn_commit.proofs.returns.add_gates.Given as goal

abbrev pub invariant-loop-row : goal.invariant-loop-row
invariant-loop-row l = record {
  rest : with_gates l.gates.items (drop l.row-index l.rows) ≡ with_gates l.initial.gates.items l.rows;
  few : length l.gates.items ≤ length l.initial.gates.items + l.row-index;
}
