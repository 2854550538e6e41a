use Rattle.std.proofs.Common.{◌≡◌, ◌<◌, Bool, List, [], ◌∷◌, length, get_or, ap, ◌∙◌, subst, arith, inl, inr}
use Rattle.syn_graph.specs.declared.Graph.{Graph}
use Rattle.syn_gain.specs.declared.proposals.Proposal.{Proposal}
use Rattle.syn_gain.specs.Proposals.{replacement}
use Rattle.syn_apply.specs.Applied.{AreAppliedTogether, IsAppliedAlone}
use Rattle.syn_proposals.specs.Closing.{SavesSome}
use Rattle.syn_proposals.specs.Sound.{AppliesSome, IsSound}
use Rattle.syn_proposals.proofs.Maps.{All-read, IfOk-map}
use Rattle.syn_proposals.proofs.applied.smaller.Goals as goal

pub returns-then-better-clause-follows : goal.returns-then-better-clause-follows
returns-then-better-clause-follows g c = record {
  same = c.in_ok-next.ensures.same;
  count = c.in_ok-better.ensures c.if-better.true;
}

pub first_applied-requires-clause-sound : goal.first_applied-requires-clause-sound
first_applied-requires-clause-sound g c = All-read (IsSound c.args.graph.now.rows) c.args.found.now 0 c.index-found-0.result c.requires.some c.index-found-0.is c.requires.sound

pub first_applied-requires-clause-saves : goal.first_applied-requires-clause-saves
first_applied-requires-clause-saves g c =
    All-read (λ p. SavesSome c.args.graph.now.rows c.args.graph.now.observed (replacement p)) c.args.found.now 0 c.index-found-0.result c.requires.some c.index-found-0.is c.requires.saves

applies_first : (was : Graph) (found : List Proposal) (p : Proposal) (now : Graph) → 0 < length found → p ≡ get_or found 0 p → IsAppliedAlone was (replacement p) now → AppliesSome was found now
applies_first was [] p now some is alone = absurd (omega (arith, some))
applies_first was (q ∷ more) p now some is alone = inl (subst (λ (x : Proposal). IsAppliedAlone was (replacement x) now) is alone)

applies_marked : (was : Graph) (found : List Proposal) (marks : List Bool) (now : Graph) → 0 < length found → length marks ≡ length found → AreAppliedTogether was found marks now → AppliesSome was found now
applies_marked was [] marks now some count together = absurd (omega (arith, some))
applies_marked was (q ∷ more) marks now some count together = inr (marks, count, together)

pub returns-then-better-clause-applied : goal.returns-then-better-clause-applied
returns-then-better-clause-applied g c =
    applies_marked c.args.graph.now c.args.found.now c.as_slice.result.now c.in_ok-next.next c.requires.some (ap length c.as_slice.ensures.value ∙ c.in_ok-marks.ensures) c.in_ok-next.ensures.applied

pub returns-clause-applied : goal.returns-clause-applied
returns-clause-applied g c =
    IfOk-map c.first_applied.result (λ next alone. applies_first c.args.graph.now c.args.found.now c.index-found-0.result next c.requires.some c.index-found-0.is alone) c.first_applied.ensures.alone
