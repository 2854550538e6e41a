use Rattle.syn_cut_functions.proofs.CutTruth.{set_lists}
use Rattle.syn_cut_functions.proofs.levels.set.Goals as goal

pub returns : goal.returns
returns c = set_lists c.args.graph.now.rows c.args.lists.now.items c.args.found.node c.args.found.own c.requires.lists c.requires.found.own
