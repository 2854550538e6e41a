use Rattle.std.proofs.Common.{◌≡◌, ◌++◌, ◌∷◌, [], map, ap, ◌∙◌}
use Rattle.std.proofs.lemmas.List.{take_all}
use Rattle.std.proofs.lemmas.List.Elements.{All-push, All-same}
use Rattle.syn_plan.specs.declared.plan.Plan.{Plan}
use Rattle.syn_plan.specs.Naming.{built_of}
use Rattle.syn_library.specs.Fitting.{Computes}
use Rattle.syn_gain.specs.Proposals.{replacement}
use Rattle.syn_gain.specs.Replacements.{Replacement}
use Rattle.syn_proposals.specs.Sound.{IsSound}
use Rattle.syn_proposals.proofs.Maps.{All-read}
use Rattle.syn_rewrite.specs.Rewriting.{over}
use Rattle.syn_rewrite.proofs.Candidates.{has_root, is_function, is_sound, more_proposals, plans_are}
use Rattle.syn_rewrite.proofs.proposer.push_plans.Goals as goal

pub loop-plan-preserved : goal.loop-plan-preserved
loop-plan-preserved c =
    let rows = c.args.graph.now.rows in
    let node = c.args.cut.root in
    let leaves = c.args.cut.leaves.now in
    let plan = c.plan-item.result in
    let one = c.owned.result in
    let old = c.loop-plan.proposals.items in
    let new = c.push.new.self.items in
    let told = c.in_ok-push.ensures.items in
    let keeps = c.loop-plan.invariant in
    let same : replacement one ≡ over node leaves (built_of plan) = c.owned.ensures ∙ c.candidate-candidate.ensures.is in
    record {
      proposals = more_proposals node leaves c.args.plans.now (map replacement c.args.proposals.now.items) old new c.loop-plan.plan-index plan one c.loop-plan-test.true c.plan-item.is told same keeps.proposals;
      roots = λ all. All-same (λ p. p.root ≡ node) new (old ++ one ∷ []) told (All-push (λ p. p.root ≡ node) old one (keeps.roots all) (has_root node leaves plan one same));
      sound = λ all. All-same (IsSound rows) new (old ++ one ∷ []) told (All-push (IsSound rows) old one (keeps.sound all)
          (is_sound rows node c.args.cut.function leaves plan one same c.requires.rooted.cut c.requires.rooted.function
          (All-read (λ p. Computes p c.args.cut.function) c.args.plans.now c.loop-plan.plan-index plan c.loop-plan-test.true c.plan-item.is c.requires.plans.values)));
    }

pub returns-clause-proposals : goal.returns-clause-proposals
returns-clause-proposals c =
    let graph = c.args.graph.now in
    let f : Plan → Replacement = λ p. over c.args.cut.root c.args.cut.leaves.now (built_of p) in
    let same = plans_are graph.rows c.args.cut.root c.args.cut.function c.args.cut.leaves.now c.args.plans.now (is_function graph c.args.cut.root c.args.cut.function c.args.cut.leaves.now c.requires.rooted.gate c.requires.rooted.cut c.requires.rooted.function) c.requires.plans in
    c.loop-plan.invariant.proposals
    ∙ ap (λ ps. map replacement c.args.proposals.now.items ++ map f ps) (take_all c.loop-plan.plan-index c.args.plans.now c.loop-plan-test.false)
    ∙ ap (λ rs. map replacement c.args.proposals.now.items ++ rs) same
