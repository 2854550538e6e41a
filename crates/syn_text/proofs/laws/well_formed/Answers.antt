use Rattle.syn_text.proofs.WellFormedNetlists.{netlist_in_fits}
use Rattle.syn_text.proofs.laws.well_formed.Goals as goal

pub returns : goal.returns
returns c = netlist_in_fits c.args.netlist.now c.len.ensures.words
