use Rattle.std.proofs.Common.{◌≡◌, ◌++◌, ◌+◌, drop}
use Rattle.syn_aiger.specs.Writing.{ands_by}
use Rattle.syn_aiger.proofs.writer.ands_from.Given as goal

abbrev pub invariant-loop-row : goal.invariant-loop-row
invariant-loop-row l = record {
  ands : l.ands.items ++ ands_by l.node (drop l.row-index l.rows) ≡ ands_by l.first l.rows;
  node : l.node ≡ l.first + l.row-index;
}
