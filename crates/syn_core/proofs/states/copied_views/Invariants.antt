use Rattle.std.proofs.Common.{◌≡◌, ◌++◌, drop}
use Rattle.syn_core.proofs.states.copied_views.Given as goal

abbrev pub invariant-loop-view : goal.invariant-loop-view
invariant-loop-view l = l.out.items ++ drop l.view-index l.views ≡ l.views
