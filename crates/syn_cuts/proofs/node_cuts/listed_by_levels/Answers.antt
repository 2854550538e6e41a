use Rattle.syn_cuts.proofs.Naming.{all_found_of}
use Rattle.syn_cuts.proofs.node_cuts.listed_by_levels.Goals as goal

pub returns : goal.returns
returns g c = all_found_of c.args.k c.args.rows.now c.of-name.result.numbers _ c.of-name.ensures c.in_ok-all.ensures
