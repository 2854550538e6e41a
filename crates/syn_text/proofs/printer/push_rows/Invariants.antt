use Rattle.std.proofs.Common.{◌≡◌, ◌++◌, flat_map, drop}
use Rattle.syn_text.specs.Printed.{row_line}
use Rattle.syn_text.proofs.printer.push_rows.Given as goal

abbrev pub invariant-loop-row : goal.invariant-loop-row
invariant-loop-row l = l.out.items ++ flat_map (row_line l.on) (drop l.row-index l.rows) ≡ l.initial.out.items ++ flat_map (row_line l.on) l.rows
