use Rattle.std.proofs.Common.{◌<◌, All, List, length, sym, subst}
use Rattle.std.proofs.lemmas.List.Elements.{All-map}
use Rattle.syn_gain.specs.declared.proposals.Proposal.{Proposal}
use Rattle.syn_gain.specs.Proposals.{replacement}
use Rattle.syn_proposals.specs.Sound.{IsSound}
use Rattle.syn_proposals.specs.Closing.{SavesNothing}
use Rattle.syn_proposals.proofs.Maps.{IfSome-at, IfNone-at}
use Rattle.syn_proposals.proofs.Firsts.{first_taken}
use Rattle.syn_proposals.proofs.proposer.first_of.Goals as goal

pub returns-in-Some-clause-first : goal.returns-in-Some-clause-first
returns-in-Some-clause-first c =
    let graph = c.args.graph.now in
    let place = c.in-Some.place in
    let found = c.in_ok-place.field-0 in
    first_taken graph.rows graph.observed c.as_slice.result.now c.args.proposals.items c.as_slice.ensures.value place c.swap_remove.result
    (IfSome-at _ found place c.in-Some.is c.in_ok-place.ensures.there) c.swap_remove.ensures.value
    (IfSome-at _ found place c.in-Some.is c.in_ok-place.ensures.saves) (IfSome-at _ found place c.in-Some.is c.in_ok-place.ensures.before)

pub returns-in-Some-clause-sound : goal.returns-in-Some-clause-sound
returns-in-Some-clause-sound c =
    let place = c.in-Some.place in
    let there : place < length c.args.proposals.items = subst (λ (ps : List Proposal). place < length ps) c.as_slice.ensures.value (IfSome-at _ c.in_ok-place.field-0 place c.in-Some.is c.in_ok-place.ensures.there) in
    subst (IsSound c.args.graph.now.rows) (sym c.swap_remove.ensures.value) (c.requires.sound place c.swap_remove.result there)

pub returns-clause-none : goal.returns-clause-none
returns-clause-none c =
    let graph = c.args.graph.now in
    All-map (SavesNothing graph.rows graph.observed) replacement c.args.proposals.items
    (subst (λ (ps : List Proposal). All (λ p. SavesNothing graph.rows graph.observed (replacement p)) ps) c.as_slice.ensures.value (IfNone-at _ c.in_ok-place.field-0 c.in-None.is c.in_ok-place.ensures.none))
