use Rattle.std.proofs.Common.{rules}
use Rattle.syn_netlist.specs.Views.{netlist_in}
use Rattle.syn_reader.specs.Reading.{NoCircle}
use Rattle.syn_reader.proofs.Flat.{no_circle}
use Rattle.syn_reader.proofs.checked.check_limits.Goals as goal

pub returns-then-count-gt-MAX_SOURCES-clause-fault : goal.returns-then-count-gt-MAX_SOURCES-clause-fault
returns-then-count-gt-MAX_SOURCES-clause-fault c =
    let acyclic : NoCircle (netlist_in c.args.n.now.netlist) = no_circle (netlist_in c.args.n.now.netlist) c.is_checked.ensures in
    search (rules, acyclic)

pub returns-then-total-gt-MAX_COST-clause-fault : goal.returns-then-total-gt-MAX_COST-clause-fault
returns-then-total-gt-MAX_COST-clause-fault c =
    let acyclic : NoCircle (netlist_in c.args.n.now.netlist) = no_circle (netlist_in c.args.n.now.netlist) c.is_checked.ensures in
    search (rules, acyclic)
