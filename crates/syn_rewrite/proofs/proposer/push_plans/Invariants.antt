use Rattle.std.proofs.Common.{◌≡◌, ◌++◌, All, map, take}
use Rattle.syn_plan.specs.Naming.{built_of}
use Rattle.syn_gain.specs.Proposals.{replacement}
use Rattle.syn_proposals.specs.Sound.{IsSound}
use Rattle.syn_rewrite.specs.Rewriting.{over}
use Rattle.syn_rewrite.proofs.proposer.push_plans.Given as goal

abbrev pub invariant-loop-plan : goal.invariant-loop-plan
invariant-loop-plan l = record {
  proposals : map replacement l.proposals.items ≡ map replacement l.initial.proposals.items ++ map (λ p. over l.cut.root l.cut.leaves.now (built_of p)) (take l.plan-index l.plans);
  roots : All (λ p. p.root ≡ l.cut.root) l.initial.proposals.items → All (λ p. p.root ≡ l.cut.root) l.proposals.items;
  sound : All (IsSound l.graph.rows) l.initial.proposals.items → All (IsSound l.graph.rows) l.proposals.items;
}
