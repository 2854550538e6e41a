use Rattle.syn_netlist.specs.Views.{netlist_in}
use Rattle.syn_netlist.proofs.Arranging.{puts_in_order, put_is_checked}
use Rattle.syn_netlist.proofs.checked_netlist.CheckedNetlist.is_checked.Goals as goal

pub returns : goal.returns
returns c = put_is_checked (netlist_in c.args.self.now.netlist) c.args.self.now.order (puts_in_order c.args.self.now.netlist c.args.self.now.order c.args.self.now.in_order)
