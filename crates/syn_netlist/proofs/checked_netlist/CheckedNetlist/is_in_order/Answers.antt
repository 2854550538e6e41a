use Rattle.syn_netlist.proofs.Arranging.{puts_in_order}
use Rattle.syn_netlist.proofs.checked_netlist.CheckedNetlist.is_in_order.Goals as goal

pub returns : goal.returns
returns c = puts_in_order c.args.self.now.netlist c.args.self.now.order c.args.self.now.in_order
