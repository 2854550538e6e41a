use Rattle.std.proofs.Common.{◌≡◌, ◌<◌, ◌++◌, [], ◌∷◌, List, length, map, ap, ◌∙◌, get_or, arith}
use Rattle.std.proofs.lemmas.List.{take_all}
use Rattle.std.proofs.lemmas.List.Elements.{All-push, All-same}
use Rattle.syn_growing.specs.Plans.{over}
use Rattle.syn_proposals.specs.Sound.{IsSound}
use Rattle.syn_resub.specs.declared.forms.Form.{Form}
use Rattle.syn_resub.specs.Resubstitution.{plan_for, resubstitutions_over}
use Rattle.syn_resub.proofs.Proposed.{form_found, proposals_more}
use Rattle.syn_resub.proofs.proposer.DivisorsProposer.propose.Goals as goal

pub proposal-requires-clause-made : goal.proposal-requires-clause-made
proposal-requires-clause-made c =
    let slice = c.as_slice.ensures.value in
    (form_found c.args.graph.now.rows c.args.node c.in_ok-divided.divided c.as_slice.result.now c.loop-place.place c.form_at-form.result c.in_ok-divided.ensures (slice ∙ c.found_forms-forms.ensures) (let long = ap (λ (l : List Form). length l) c.as_slice.ensures.value in omega (arith, c.loop-place-test.true, c.len-place-end.ensures.value, long)) c.form_at-form.ensures).0

pub proposal-requires-clause-stands : goal.proposal-requires-clause-stands
proposal-requires-clause-stands c =
    let slice = c.as_slice.ensures.value in
    (form_found c.args.graph.now.rows c.args.node c.in_ok-divided.divided c.as_slice.result.now c.loop-place.place c.form_at-form.result c.in_ok-divided.ensures (slice ∙ c.found_forms-forms.ensures) (let long = ap (λ (l : List Form). length l) c.as_slice.ensures.value in omega (arith, c.loop-place-test.true, c.len-place-end.ensures.value, long)) c.form_at-form.ensures).1

pub loop-place-preserved : goal.loop-place-preserved
loop-place-preserved c =
    let rows = c.args.graph.now.rows in
    let node = c.args.node in
    let leaves = c.in_ok-divided.divided.leaves.items in
    let forms = c.found_forms-forms.result.items in
    let same = c.as_slice.ensures.value in
    let lt : c.loop-place.place < length forms = omega (arith, c.loop-place-test.true, c.len-place-end.ensures.value) in
    let at : c.form_at-form.result ≡ get_or forms c.loop-place.place c.form_at-form.result = c.form_at-form.ensures ∙ ap (λ (l : List Form). get_or l c.loop-place.place c.form_at-form.result) same in
    let told = c.in_ok-push.ensures.items in
    record {
      within = omega (arith, lt);
      proposals = proposals_more (λ form. over node leaves (plan_for rows leaves node form)) forms c.loop-place.place c.form_at-form.result c.loop-place.proposals.items c.push.new.self.items c.proposal.result lt at told c.proposal.ensures.proposal c.loop-place.invariant.proposals;
      roots = All-same (λ p. p.root ≡ node) c.push.new.self.items (c.loop-place.proposals.items ++ c.proposal.result ∷ []) told (All-push (λ p. p.root ≡ node) c.loop-place.proposals.items c.proposal.result c.loop-place.invariant.roots c.proposal.ensures.root);
      sound = All-same (IsSound rows) c.push.new.self.items (c.loop-place.proposals.items ++ c.proposal.result ∷ []) told (All-push (IsSound rows) c.loop-place.proposals.items c.proposal.result c.loop-place.invariant.sound c.proposal.ensures.sound);
    }

pub returns-clause-proposals : goal.returns-clause-proposals
returns-clause-proposals c =
    let rows = c.args.graph.now.rows in
    let node = c.args.node in
    let leaves = c.in_ok-divided.divided.leaves.items in
    let forms = c.found_forms-forms.result.items in
    c.loop-place.invariant.proposals
    ∙ ap (map (λ form. over node leaves (plan_for rows leaves node form))) (take_all c.loop-place.place forms (omega (arith, c.loop-place-test.false, c.len-place-end.ensures.value)) ∙ c.found_forms-forms.ensures)
    ∙ ap (λ ls. resubstitutions_over rows ls node) c.in_ok-divided.ensures.leaves
