use Rattle.std.proofs.Common.{◌≡◌, ◌+◌, map, sum_by, drop}
use Rattle.syn_netlist.specs.Costs.{cost_of, table_cost}
use Rattle.syn_netlist.specs.Views.{netlist_in, table_in}
use Rattle.syn_netlist.proofs.costs.cost.Given as goal

abbrev pub invariant-loop-table : goal.invariant-loop-table
invariant-loop-table l = l.total + sum_by table_cost (map (table_in l.n.frame.names) (drop l.table-index l.n.tables)) ≡ cost_of (netlist_in l.n)
