use Rattle.std.proofs.Common.{rules, ◌∙◌, subst}
use Rattle.std.proofs.lemmas.List.{get_or_default}
use Rattle.syn_gain.specs.Replacements.{Replacement}
use Rattle.syn_growing.specs.Plans.{over}
use Rattle.syn_proposals.specs.Closing.{SavesNothing, SavesSome}
use Rattle.syn_resub.specs.declared.forms.Form.{Form}
use Rattle.syn_resub.specs.Resubstitution.{plan_for}
use Rattle.syn_resub.proofs.Proposed.{form_found}
use Rattle.syn_resub.proofs.Saving.{nothing_more}
use Rattle.syn_resub.proofs.placed_forms.place_of_first.Goals as goal

pub form_saves-requires-clause-made : goal.form_saves-requires-clause-made
form_saves-requires-clause-made c =
    (form_found c.args.graph.now.rows c.args.node c.args.divided.now c.args.forms.now c.loop-place.place c.form_at-form.result c.requires.divided c.requires.forms c.loop-place-test.true c.form_at-form.ensures).0

pub loop-place-preserved : goal.loop-place-preserved
loop-place-preserved c =
    let graph = c.args.graph.now in
    let leaves = c.args.divided.now.leaves.items in
    let f : Form → Replacement = λ form. over c.args.node leaves (plan_for graph.rows leaves c.args.node form) in
    nothing_more (λ form. SavesNothing graph.rows graph.observed (f form)) c.args.forms.now c.loop-place.place c.form_at-form.result c.loop-place-test.true c.form_at-form.ensures c.loop-place.invariant
    (c.in_ok-form_saves.ensures.none (search rules))

pub returns-then-branch-clause-saves : goal.returns-then-branch-clause-saves
returns-then-branch-clause-saves c =
    let graph = c.args.graph.now in
    let leaves = c.args.divided.now.leaves.items in
    let f : Form → Replacement = λ form. over c.args.node leaves (plan_for graph.rows leaves c.args.node form) in
    λ d. subst (λ form. SavesSome graph.rows graph.observed (f form)) (c.form_at-form.ensures ∙ get_or_default c.args.forms.now c.loop-place.place c.form_at-form.result d c.loop-place-test.true)
    (c.in_ok-form_saves.ensures.some (search rules))
