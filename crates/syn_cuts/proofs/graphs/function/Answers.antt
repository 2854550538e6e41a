use Rattle.std.proofs.Common.{sym, subst}
use Rattle.syn_rows.specs.Rows.{InOrder}
use Rattle.syn_hashed.proofs.Orders.{hashed_in_order}
use Rattle.syn_cuts.proofs.graphs.function.Goals as goal

pub function-requires-clause-order : goal.function-requires-clause-order
function-requires-clause-order c = subst InOrder (sym c.as_slice.ensures) (hashed_in_order _ c.args.graph.now.rows c.args.graph.now.graph.hashed)
