use Rattle.std.proofs.Common.{◌∙◌}
use Rattle.syn_proposals.proofs.Maps.{IfNone-at, IfSome-at}
use Rattle.syn_resub.proofs.Proposed.{first_form, form_found, no_form}
use Rattle.syn_resub.proofs.proposer.DivisorsProposer.first_saving.Goals as goal

pub proposal-requires-clause-made : goal.proposal-requires-clause-made
proposal-requires-clause-made c =
    (form_found c.args.graph.now.rows c.args.node c.in_ok-divided.divided c.as_slice-all.result.now c.in-Some.place c.form_at-form.result c.in_ok-divided.ensures (c.as_slice-all.ensures.value ∙ c.found_forms-forms.ensures) (IfSome-at _ c.in_ok-place.field-0 c.in-Some.place c.in-Some.is c.in_ok-place.ensures.there) c.form_at-form.ensures).0

pub proposal-requires-clause-stands : goal.proposal-requires-clause-stands
proposal-requires-clause-stands c =
    (form_found c.args.graph.now.rows c.args.node c.in_ok-divided.divided c.as_slice-all.result.now c.in-Some.place c.form_at-form.result c.in_ok-divided.ensures (c.as_slice-all.ensures.value ∙ c.found_forms-forms.ensures) (IfSome-at _ c.in_ok-place.field-0 c.in-Some.place c.in-Some.is c.in_ok-place.ensures.there) c.form_at-form.ensures).1

pub returns-in-Some-clause-first : goal.returns-in-Some-clause-first
returns-in-Some-clause-first c =
    let graph = c.args.graph.now in
    let place = c.in-Some.place in
    let found = c.in_ok-place.field-0 in
    first_form graph.rows graph.observed c.args.node c.in_ok-divided.divided c.as_slice-all.result.now place c.form_at-form.result c.proposal.result c.in_ok-divided.ensures (c.as_slice-all.ensures.value ∙ c.found_forms-forms.ensures)
    (IfSome-at _ found place c.in-Some.is c.in_ok-place.ensures.there) c.form_at-form.ensures c.proposal.ensures.proposal
    (IfSome-at _ found place c.in-Some.is c.in_ok-place.ensures.saves) (IfSome-at _ found place c.in-Some.is c.in_ok-place.ensures.before)

pub returns-in-None-clause-none : goal.returns-in-None-clause-none
returns-in-None-clause-none c =
    let graph = c.args.graph.now in
    no_form graph.rows graph.observed c.args.node c.in_ok-divided.divided c.as_slice-all.result.now c.in_ok-divided.ensures (c.as_slice-all.ensures.value ∙ c.found_forms-forms.ensures) (IfNone-at _ c.in_ok-place.field-0 c.in-None.is c.in_ok-place.ensures.none)
