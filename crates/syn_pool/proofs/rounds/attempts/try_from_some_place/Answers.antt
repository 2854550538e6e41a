use Rattle.std.proofs.Common.{subst, sym}
use Rattle.syn_pool.specs.declared.rounds.workers.Worker.{Worker}
use Rattle.syn_pool.specs.Working.{HasWorked}
use Rattle.syn_pool.proofs.Works.{has_both}
use Rattle.syn_pool.proofs.rounds.attempts.try_from_some_place.Goals as goal
use Rattle.syn_pool.proofs.rounds.attempts.try_from_some_place.Goals.{then-try_each, else-try_each}

pub returns-then-try_each-2-clause-worked : goal.returns-then-try_each-2-clause-worked
returns-then-try_each-2-clause-worked g c = elim c.if-try_each.branch [
  | then-try_each w ↦ subst (λ (v : Worker). HasWorked c.args.zero_gain c.args.worker.now v) (sym w.worker-is) c.try_each.ensures.worked
  | else-try_each w ↦ subst (λ (v : Worker). HasWorked c.args.zero_gain c.args.worker.now v) (sym w.worker-is) (has_both c.args.zero_gain _ _ _ c.try_each.ensures.worked w.try_each-else-try_each.ensures.worked)
]

pub returns-else-try_each-2-clause-worked : goal.returns-else-try_each-2-clause-worked
returns-else-try_each-2-clause-worked g c = elim c.if-try_each.branch [
  | then-try_each w ↦ has_both c.args.zero_gain _ _ _ (subst (λ (v : Worker). HasWorked c.args.zero_gain c.args.worker.now v) (sym w.worker-is) c.try_each.ensures.worked) c.try_each-done.ensures.worked
  | else-try_each w ↦ has_both c.args.zero_gain _ _ _ (subst (λ (v : Worker). HasWorked c.args.zero_gain c.args.worker.now v) (sym w.worker-is) (has_both c.args.zero_gain _ _ _ c.try_each.ensures.worked w.try_each-else-try_each.ensures.worked)) c.try_each-done.ensures.worked
]
