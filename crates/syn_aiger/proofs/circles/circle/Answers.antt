use Rattle.std.proofs.Common.{sym, ◌∙◌}
use Rattle.syn_aiger.proofs.Ordering.{order_is_rank}
use Rattle.syn_aiger.proofs.circles.circle.Goals as goal

pub returns-then-is_in_order-clause-none : goal.returns-then-is_in_order-clause-none
returns-then-is_in_order-clause-none c = order_is_rank c.args.file.now.aig c.args.file.now.sound (sym c.is_in_order.ensures ∙ c.if-is_in_order.true)
