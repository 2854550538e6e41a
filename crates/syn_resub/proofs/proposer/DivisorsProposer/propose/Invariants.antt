use Rattle.std.proofs.Common.{◌≡◌, ◌≤◌, All, length, map, take}
use Rattle.syn_gain.specs.Proposals.{replacement}
use Rattle.syn_growing.specs.Plans.{over}
use Rattle.syn_proposals.specs.Sound.{IsSound}
use Rattle.syn_resub.specs.Resubstitution.{plan_for}
use Rattle.syn_resub.proofs.proposer.DivisorsProposer.propose.Given as goal

abbrev pub invariant-loop-place : goal.invariant-loop-place
invariant-loop-place l = record {
  within : l.place ≤ length l.forms.items;
  proposals : map replacement l.proposals.items ≡ map (λ form. over l.node l.divided.leaves.items (plan_for l.graph.rows l.divided.leaves.items l.node form)) (take l.place l.forms.items);
  roots : All (λ p. p.root ≡ l.node) l.proposals.items;
  sound : All (IsSound l.graph.rows) l.proposals.items;
}
