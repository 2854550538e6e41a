use Rattle.std.proofs.Common.{◌≡◌, ◌∙◌, true, List, Bool, length, sym, subst}
use Rattle.syn_cones.specs.Leaves.{are_below, rise_above}
use Rattle.syn_growing.proofs.Sorted.{below_from, rise_from}
use Rattle.syn_gain.specs.Replacements.{leaf_values}
use Rattle.syn_growing.proofs.Sound.{is_sound}
use Rattle.syn_resub.specs.Resubstitution.{plan_for}
use Rattle.syn_resub.proofs.Proposed.{plan_computes, proposal_is}
use Rattle.syn_resub.proofs.proposer.proposal.Goals as goal

pub returns-clause-proposal : goal.returns-clause-proposal
returns-clause-proposal c =
    let leaves = c.args.divided.now.leaves.items in
    let copy = c.over.ensures.leaves ∙ c.copied.ensures ∙ c.as_slice.ensures.value in
    proposal_is c.args.node leaves c.plan_for-plan.result c.over.result (plan_for c.args.graph.now.rows leaves c.args.node c.args.form) c.over.ensures.root copy c.over.ensures.plan c.plan_for-plan.ensures.leaves c.plan_for-plan.ensures.built

pub returns-clause-sound : goal.returns-clause-sound
returns-clause-sound c =
    let leaves = c.args.divided.now.leaves.items in
    let copy = c.over.ensures.leaves ∙ c.copied.ensures ∙ c.as_slice.ensures.value in
    let all : (values : List Bool) → leaf_values (length values) values ≡ values = c.all_leaf_values.ensures in
    is_sound c.args.graph.now.rows c.args.node leaves c.args.divided.now.table c.plan_for-plan.result c.over.result c.requires.divided.are c.requires.divided.truth c.plan_for-plan.ensures.leaves all
    (plan_computes c.args.graph.now c.args.node c.args.divided.now c.args.form c.plan_for-plan.result c.requires.divided c.requires.made c.requires.stands c.plan_for-plan.ensures.built)
    c.over.ensures.root copy c.over.ensures.plan

pub over-requires-clause-rising : goal.over-requires-clause-rising
over-requires-clause-rising c =
    let are = c.requires.divided.are in
    subst (λ ls. rise_above 0 ls ≡ true) (sym (c.copied.ensures ∙ c.as_slice.ensures.value)) (rise_from 0 c.args.divided.now.leaves.items are.rise (λ n h. (are.within n h).0))

pub over-requires-clause-below : goal.over-requires-clause-below
over-requires-clause-below c =
    let are = c.requires.divided.are in
    subst (λ ls. are_below c.args.node ls ≡ true) (sym (c.copied.ensures ∙ c.as_slice.ensures.value)) (below_from c.args.node c.args.divided.now.leaves.items (λ n h. (are.within n h).1))
