use Rattle.syn_pool.specs.Working.{HasWorked, IsAtWork}
use Rattle.syn_pool.proofs.rounds.attempts.try_each.Given as goal

abbrev pub invariant-loop-proposal : goal.invariant-loop-proposal
invariant-loop-proposal g l = record {
  at_work : IsAtWork l.tools.shared.now l.worker;
  worked : HasWorked l.zero_gain l.fn.worker l.worker;
}
