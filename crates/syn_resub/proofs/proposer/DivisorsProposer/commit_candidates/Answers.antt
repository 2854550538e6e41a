use Rattle.std.proofs.Common.{◌≡◌, true, List, length, sym, ap, ◌∙◌, subst, arith}
use Rattle.syn_cones.specs.Leaves.{rise_above}
use Rattle.syn_growing.proofs.Sorted.{rise_from}
use Rattle.syn_resub.specs.declared.forms.Form.{Form}
use Rattle.syn_resub.proofs.Proposed.{form_found}
use Rattle.syn_resub.proofs.proposer.DivisorsProposer.commit_candidates.Goals as goal

pub push_candidates-requires-clause-made : goal.push_candidates-requires-clause-made
push_candidates-requires-clause-made c =
    (form_found c.args.graph.now.rows c.args.node c.in_ok-divided.divided c.as_slice.result.now c.loop-place.place c.form_at-form.result c.in_ok-divided.ensures (c.as_slice.ensures.value ∙ c.found_forms-forms.ensures) (let long = ap (λ (l : List Form). length l) c.as_slice.ensures.value in omega (arith, c.loop-place-test.true, c.len-place-end.ensures.value, long)) c.form_at-form.ensures).0

pub push_candidates-requires-clause-stands : goal.push_candidates-requires-clause-stands
push_candidates-requires-clause-stands c =
    (form_found c.args.graph.now.rows c.args.node c.in_ok-divided.divided c.as_slice.result.now c.loop-place.place c.form_at-form.result c.in_ok-divided.ensures (c.as_slice.ensures.value ∙ c.found_forms-forms.ensures) (let long = ap (λ (l : List Form). length l) c.as_slice.ensures.value in omega (arith, c.loop-place-test.true, c.len-place-end.ensures.value, long)) c.form_at-form.ensures).1

pub mffc_size-requires-clause-rise : goal.mffc_size-requires-clause-rise
mffc_size-requires-clause-rise c =
    let are = c.in_ok-divided.ensures.are in
    subst (λ ls. rise_above 0 ls ≡ true) (sym c.as_slice-leaves.ensures.value) (rise_from 0 c.in_ok-divided.divided.leaves.items are.rise (λ n h. (are.within n h).0))
