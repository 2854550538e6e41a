use Rattle.std.proofs.Common.{false, subst, sym}
use Rattle.syn_pool.specs.declared.rounds.workers.Worker.{Worker}
use Rattle.syn_pool.specs.Working.{HasWorked}
use Rattle.syn_pool.proofs.Works.{has_both}
use Rattle.syn_pool.proofs.rounds.visits.visit_for_gain.Goals as goal
use Rattle.syn_pool.proofs.rounds.visits.visit_for_gain.Goals.{then-done+then-not-is_empty, else-done}

pub returns-clause-worked : goal.returns-clause-worked
returns-clause-worked g c = elim c.if-done.branch [
  | then-done+then-not-is_empty w ↦ subst (λ (v : Worker). HasWorked false c.args.worker.now v) (sym w.worker-is) (has_both false _ _ _ c.try_each-done.ensures.worked w.revisit_fanouts.ensures.worked)
  | else-done w ↦ subst (λ (v : Worker). HasWorked false c.args.worker.now v) (sym w.worker-is) c.try_each-done.ensures.worked
]
