use Rattle.std.proofs.Common.{false}
use Rattle.syn_pool.specs.Working.{HasWorked, IsAtWork}
use Rattle.syn_pool.proofs.rounds.revisits.revisit_fanouts.Given as goal

abbrev pub invariant-loop : goal.invariant-loop
invariant-loop g l = record {
  at_work : IsAtWork l.context.tools.shared.now l.worker;
  worked : HasWorked false l.fn.worker l.worker;
}
