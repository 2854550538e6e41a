use Rattle.std.proofs.Common.{[]}
use Rattle.syn_plan.proofs.Factored.{is_factored}
use Rattle.syn_plan.proofs.Orders.{order_parts, order_covers}
use Rattle.syn_plan.proofs.laws.factored_truth.Goals as goal

pub returns : goal.returns
returns c = λ n order f h xs e. (is_factored n order f [] (order_parts n order h).1 (order_covers n order f h)).value xs e
