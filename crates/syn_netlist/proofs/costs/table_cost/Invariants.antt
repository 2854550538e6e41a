use Rattle.std.proofs.Common.{◌≡◌, ◌+◌, sum_by, drop}
use Rattle.syn_netlist.specs.Costs.{row_cost}
use Rattle.syn_netlist.proofs.costs.table_cost.Given as goal

abbrev pub invariant-loop-row : goal.invariant-loop-row
invariant-loop-row l = l.total + sum_by row_cost (drop l.row-index l.rows) ≡ sum_by row_cost l.rows
