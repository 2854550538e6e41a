use Rattle.std.proofs.Common.{◌≡◌, ◌++◌, length, option_map, Some, None}
use Rattle.syn_reader.specs.Statements.{rows_below}
use Rattle.syn_reader.specs.Computed.{row_parts}
use Rattle.syn_reader.specs.Rows.{below_rows, rows_fault}
use Rattle.syn_reader.proofs.rows.read_rows.Given as goal

abbrev pub invariant-loop-row : goal.invariant-loop-row
invariant-loop-row l = record {
  parts : row_parts l.inputs l.on (rows_below l.fn.statements) ≡ option_map (λ ps. l.parts.items ++ ps) (row_parts l.inputs l.on (rows_below l.statements));
  faults : rows_fault l.inputs (Some l.on) l.statements ≡ rows_fault l.inputs None l.fn.statements;
  below : below_rows l.statements ≡ below_rows l.fn.statements;
}

abbrev pub decreases-loop-row : goal.decreases-loop-row
decreases-loop-row l = length l.statements
