use Rattle.std.proofs.Common.{◌≡◌, sym, ap, ◌∙◌, subst}
use Rattle.syn_gain.specs.Proposals.{replacement_of}
use Rattle.syn_gain.specs.Replacements.{Replacement}
use Rattle.syn_apply.specs.Applied.{IsAppliedAlone}
use Rattle.syn_levels.specs.Levels.{keeps_level}
use Rattle.syn_proposals.specs.Closing.{SavesSome}
use Rattle.syn_proposals.proofs.Borrowed.{borrowed_is}
use Rattle.syn_proposals.proofs.Chains.{applied_follows_all}
use Rattle.syn_proposals.proofs.Maps.{IfOk-map}
use Rattle.syn_proposals.proofs.applied.first_applied.Goals as goal

pub returns-then-has_room-clause-follows : goal.returns-then-has_room-clause-follows
returns-then-has_room-clause-follows c =
    let graph = c.args.graph.now in
    let same = borrowed_is c.borrow.result c.args.proposal.now c.borrow.ensures.root c.borrow.ensures.leaves c.borrow.ensures.plan in
    applied_follows_all graph (replacement_of c.borrow.result) c.applied.result c.applied.ensures.same c.applied.ensures.count
    (subst (SavesSome graph.rows graph.observed) (sym same) c.requires.saves)

pub returns-then-has_room-clause-levels : goal.returns-then-has_room-clause-levels
returns-then-has_room-clause-levels c =
    let graph = c.args.graph.now in
    let same = borrowed_is c.borrow.result c.args.proposal.now c.borrow.ensures.root c.borrow.ensures.leaves c.borrow.ensures.plan in
    IfOk-map c.applied.result (λ g lower keeps. lower (ap (keeps_level graph.rows) same ∙ keeps)) c.applied.ensures.levels

pub returns-then-has_room-clause-alone : goal.returns-then-has_room-clause-alone
returns-then-has_room-clause-alone c =
    let graph = c.args.graph.now in
    let same = borrowed_is c.borrow.result c.args.proposal.now c.borrow.ensures.root c.borrow.ensures.leaves c.borrow.ensures.plan in
    IfOk-map c.applied.result (λ g alone. subst (λ (r : Replacement). IsAppliedAlone graph r g) same alone) c.applied.ensures.alone
