use Rattle.std.proofs.Common.{rules, ◌≡◌, ◌++◌, ◌∷◌, [], ◌∙◌}
use Rattle.std.proofs.lemmas.List.Elements.{All-push, All-same}
use Rattle.syn_plan.specs.Naming.{built_of}
use Rattle.syn_gain.specs.Proposals.{replacement}
use Rattle.syn_rewrite.specs.Rewriting.{over}
use Rattle.syn_rewrite.proofs.Candidates.{has_root}
use Rattle.syn_rewrite.proofs.commit_candidates.push_worth.Goals as goal

pub loop-plan-preserved : goal.loop-plan-preserved
loop-plan-preserved c =
    let node = c.args.cut.root in
    let leaves = c.args.cut.leaves.now in
    let plan = c.plan-item.result in
    let one = c.owned.result in
    let old = c.loop-plan.proposals.items in
    let same : replacement one ≡ over node leaves (built_of plan) = c.owned.ensures ∙ c.candidate-candidate.ensures.is in
    record {
      roots = λ all.
          All-same (λ p. p.root ≡ node) c.push.new.self.items (old ++ one ∷ []) c.in_ok-push.ensures.items
          (All-push (λ p. p.root ≡ node) old one (c.loop-plan.invariant.roots all) (has_root node leaves plan one same));
      begins = search rules;
    }
