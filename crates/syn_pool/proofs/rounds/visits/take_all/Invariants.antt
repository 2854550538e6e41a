use Rattle.syn_pool.specs.Working.{HasWorked, IsAtWork}
use Rattle.syn_pool.proofs.rounds.visits.take_all.Given as goal

abbrev pub invariant-loop : goal.invariant-loop
invariant-loop g l = record {
  at_work : IsAtWork l.context.tools.shared.now l.worker;
  worked : HasWorked l.context.shared_state.now.zero_gain l.fn.worker l.worker;
}
