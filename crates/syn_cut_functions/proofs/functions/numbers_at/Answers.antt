use Rattle.syn_cut_functions.proofs.Listed.{within_lists}
use Rattle.syn_cut_functions.proofs.functions.numbers_at.Goals as goal

pub nontrivial-requires : goal.nontrivial-requires
nontrivial-requires c = within_lists c.args.cuts.now c.args.graph.now.rows c.args.node c.requires.cuts c.requires.node
