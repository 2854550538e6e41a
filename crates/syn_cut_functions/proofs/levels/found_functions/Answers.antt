use Rattle.syn_cut_functions.proofs.CutTruth.{all_found_of}
use Rattle.syn_cut_functions.proofs.levels.found_functions.Goals as goal

pub returns : goal.returns
returns g c = all_found_of c.args.graph.now.rows c.of-name.result.numbers _ c.of-name.ensures c.in_ok-all.ensures
