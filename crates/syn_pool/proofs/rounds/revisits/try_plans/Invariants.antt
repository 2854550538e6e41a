use Rattle.std.proofs.Common.{false}
use Rattle.syn_pool.specs.Working.{HasWorked, IsAtWork}
use Rattle.syn_pool.proofs.rounds.revisits.try_plans.Given as goal

abbrev pub invariant-loop-plan : goal.invariant-loop-plan
invariant-loop-plan g l = record {
  at_work : IsAtWork l.tools.shared.now l.worker;
  worked : HasWorked false l.fn.worker l.worker;
}
