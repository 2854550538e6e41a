use Rattle.std.proofs.Common.{◌≡◌, ◌+◌, ◌≤◌, true, sum_by, drop, length}
use Rattle.syn_netlist.specs.Costs.{cost_of, table_cost}
use Rattle.syn_netlist.specs.Order.{reads_known}
use Rattle.syn_netlist.specs.Views.{netlist_in}
use Rattle.syn_build.specs.Naming.{in_order, IsNamed}
use Rattle.syn_build.proofs.Known.{known_at}
use Rattle.syn_build.proofs.tables.name_tables.Given as goal

abbrev pub invariant-loop-number : goal.invariant-loop-number
invariant-loop-number l = record {
  sources : l.hashed.source_count ≡ l.fn.hashed.source_count;
  few : length l.hashed.rows.items + sum_by table_cost (drop l.number-index (in_order (netlist_in l.netlist) l.order).tables) ≤ length l.fn.hashed.rows.items + cost_of (netlist_in l.netlist);
  reads : reads_known (known_at (in_order (netlist_in l.netlist) l.order) l.number-index) (drop l.number-index (in_order (netlist_in l.netlist) l.order).tables) ≡ true;
  named : IsNamed (in_order (netlist_in l.netlist) l.order) l.netlist.frame.names (known_at (in_order (netlist_in l.netlist) l.order) l.number-index) l.hashed.rows.items l.literals;
}
