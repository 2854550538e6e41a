use Rattle.syn_cut_functions.proofs.levels.carried.Goals as goal

pub carried_over-requires-clause-left : goal.carried_over-requires-clause-left
carried_over-requires-clause-left c = c.carried_at.ensures c.args.graph.now.rows c.requires.name

pub carried_over-requires-clause-right : goal.carried_over-requires-clause-right
carried_over-requires-clause-right c = c.carried_at-in-And.ensures c.args.graph.now.rows c.requires.name
