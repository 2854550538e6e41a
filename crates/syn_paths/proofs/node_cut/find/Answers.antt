use Rattle.syn_hashed.proofs.Orders.{hashed_in_order}
use Rattle.syn_paths.proofs.node_cut.find.Goals as goal

pub lists_from-requires-clause-order : goal.lists_from-requires-clause-order
lists_from-requires-clause-order c = hashed_in_order c.requires.hashed.0 c.args.rows.now c.requires.hashed.1
