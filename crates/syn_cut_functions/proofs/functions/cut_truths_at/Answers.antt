use Rattle.syn_cut_functions.proofs.functions.cut_truths_at.Goals as goal

pub carried_over-requires-clause-left : goal.carried_over-requires-clause-left
carried_over-requires-clause-left c = c.carried_of.ensures c.args.graph.now.rows c.requires.lists

pub carried_over-requires-clause-right : goal.carried_over-requires-clause-right
carried_over-requires-clause-right c = c.carried_of-in-And.ensures c.args.graph.now.rows c.requires.lists
