use Rattle.std.proofs.Common.{◌≤◌, All, List, length, sym, subst, ◌∙◌, arith}
use Rattle.std.proofs.lemmas.List.Elements.{All-map}
use Rattle.syn_plan.specs.declared.plan.Plan.{Plan}
use Rattle.syn_plan.specs.Naming.{built_of}
use Rattle.syn_library.specs.Fitting.{Computes}
use Rattle.syn_gain.specs.Replacements.{Replacement}
use Rattle.syn_proposals.specs.Closing.{IsFirst, SavesNothing, SavesSome}
use Rattle.syn_proposals.proofs.Firsts.{first_is}
use Rattle.syn_proposals.proofs.Maps.{All-read}
use Rattle.syn_rewrite.specs.Rewriting.{cut_proposals, over}
use Rattle.syn_rewrite.proofs.Candidates.{is_function, is_sound, plans_are}
use Rattle.syn_rewrite.proofs.proposer.first_over.Goals as goal

pub returns-then-branch-clause-first : goal.returns-then-branch-clause-first
returns-then-branch-clause-first c =
    let graph = c.args.graph.now in
    let node = c.args.cut.root in
    let leaves = c.args.cut.leaves.now in
    let plan = c.plan-item.result in
    let f : Plan → Replacement = λ p. over node leaves (built_of p) in
    let same = plans_are graph.rows node c.args.cut.function leaves c.args.plans.now (is_function graph node c.args.cut.function leaves c.requires.rooted.gate c.requires.rooted.cut c.requires.rooted.function) c.requires.plans in
    let some : SavesSome graph.rows graph.observed (f plan) = subst (SavesSome graph.rows graph.observed) c.candidate-candidate.ensures.is (c.in_ok-saves.ensures.some c.if-branch.true) in
    subst (IsFirst graph.rows graph.observed (cut_proposals graph.rows node leaves)) (sym (c.owned.ensures ∙ c.candidate-candidate.ensures.is))
    (subst (λ (l : List Replacement). IsFirst graph.rows graph.observed l (f plan)) same
    (first_is graph.rows graph.observed f c.args.plans.now c.loop-plan.plan-index plan c.loop-plan-test.true c.plan-item.is some c.loop-plan.invariant))

pub returns-then-branch-clause-sound : goal.returns-then-branch-clause-sound
returns-then-branch-clause-sound c =
    is_sound c.args.graph.now.rows c.args.cut.root c.args.cut.function c.args.cut.leaves.now c.plan-item.result c.owned.result (c.owned.ensures ∙ c.candidate-candidate.ensures.is) c.requires.rooted.cut c.requires.rooted.function
    (All-read (λ p. Computes p c.args.cut.function) c.args.plans.now c.loop-plan.plan-index c.plan-item.result c.loop-plan-test.true c.plan-item.is c.requires.plans.values)

pub returns-clause-none : goal.returns-clause-none
returns-clause-none c =
    let graph = c.args.graph.now in
    let node = c.args.cut.root in
    let leaves = c.args.cut.leaves.now in
    let f : Plan → Replacement = λ p. over node leaves (built_of p) in
    let same = plans_are graph.rows node c.args.cut.function leaves c.args.plans.now (is_function graph node c.args.cut.function leaves c.requires.rooted.gate c.requires.rooted.cut c.requires.rooted.function) c.requires.plans in
    let end : length c.args.plans.now ≤ c.loop-plan.plan-index = c.loop-plan-test.false in
    let all : All (λ p. SavesNothing graph.rows graph.observed (f p)) c.args.plans.now = λ k d lt. c.loop-plan.invariant k d (omega arith) (omega (arith, lt, end)) in
    subst (λ (l : List Replacement). All (SavesNothing graph.rows graph.observed) l) same (All-map (SavesNothing graph.rows graph.observed) f c.args.plans.now all)
