use Rattle.std.proofs.Common.{true}
use Rattle.syn_pool.proofs.Works.{has_both, has_saved}
use Rattle.syn_pool.proofs.rounds.visits.visit_for_any.Goals as goal

pub returns-clause-worked : goal.returns-clause-worked
returns-clause-worked g c = has_both true _ _ _ (has_saved true _ _ c.visit_for_gain.ensures.worked) c.try_from_some_place.ensures.worked
