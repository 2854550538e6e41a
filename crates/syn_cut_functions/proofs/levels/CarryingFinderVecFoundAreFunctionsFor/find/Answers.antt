use Rattle.syn_cut_functions.proofs.CutTruth.{found_named}
use Rattle.syn_cut_functions.proofs.levels.CarryingFinderVecFoundAreFunctionsFor.find.Goals as goal

pub returns : goal.returns
returns c = found_named c.args.self.now.graph.now.rows c.args.known.now.tag.numbers c.in_ok-all.all c.requires c.in_ok-all.ensures
