use Rattle.std.specs.List.{AllWithin}
use Rattle.syn_growing.specs.Plans.{over}
use Rattle.syn_proposals.specs.Closing.{SavesNothing}
use Rattle.syn_resub.specs.Resubstitution.{plan_for}
use Rattle.syn_resub.proofs.placed_forms.place_of_first.Given as goal

abbrev pub invariant-loop-place : goal.invariant-loop-place
invariant-loop-place l = AllWithin (λ form. SavesNothing l.graph.rows l.graph.observed (over l.node l.divided.leaves.items (plan_for l.graph.rows l.divided.leaves.items l.node form))) l.forms 0 l.place
