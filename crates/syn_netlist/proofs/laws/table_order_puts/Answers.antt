use Rattle.syn_netlist.proofs.Arranging.{table_order_puts as law}
use Rattle.syn_netlist.proofs.laws.table_order_puts.Goals as goal

pub returns : goal.returns
returns c = law
