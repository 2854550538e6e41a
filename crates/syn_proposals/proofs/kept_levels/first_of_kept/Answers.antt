use Rattle.std.proofs.Common.{◌≡◌, All, List, map, refl, subst}
use Rattle.std.specs.List.{filter}
use Rattle.syn_gain.specs.declared.proposals.Proposal.{Proposal}
use Rattle.syn_gain.specs.Proposals.{replacement}
use Rattle.syn_gain.specs.Replacements.{Replacement}
use Rattle.syn_levels.specs.Levels.{keeps_level}
use Rattle.syn_proposals.specs.Closing.{IsFirst, SavesNothing}
use Rattle.syn_proposals.specs.Sound.{IsSound}
use Rattle.syn_proposals.proofs.Kept.{kept_all, kept_are}
use Rattle.syn_proposals.proofs.Maps.{IfNone-map, IfOk-map, IfSome-map}
use Rattle.syn_proposals.proofs.kept_levels.first_of_kept.Goals as goal

pub first_of-requires-clause-roots : goal.first_of-requires-clause-roots
first_of-requires-clause-roots c = kept_all (λ (p : Proposal). p.root ≡ c.args.node) c.args.graph.now.rows c.args.all.items c.in_ok-proposals.proposals.items c.in_ok-proposals.ensures c.requires.roots

pub first_of-requires-clause-sound : goal.first_of-requires-clause-sound
first_of-requires-clause-sound c = kept_all (IsSound c.args.graph.now.rows) c.args.graph.now.rows c.args.all.items c.in_ok-proposals.proposals.items c.in_ok-proposals.ensures c.requires.sound

pub returns-clause-first : goal.returns-clause-first
returns-clause-first c =
    let graph = c.args.graph.now in
    let are : map replacement c.in_ok-proposals.proposals.items ≡ filter (keeps_level graph.rows) (map replacement c.args.all.items) =
    kept_are graph.rows c.args.all.items c.in_ok-proposals.proposals.items (map replacement c.args.all.items) c.in_ok-proposals.ensures refl in
    IfOk-map c.first_of.result (λ found h. IfSome-map found (λ p first. subst (λ (rs : List Replacement). IsFirst graph.rows graph.observed rs (replacement p)) are first) h) c.first_of.ensures.first

pub returns-clause-none : goal.returns-clause-none
returns-clause-none c =
    let graph = c.args.graph.now in
    let are : map replacement c.in_ok-proposals.proposals.items ≡ filter (keeps_level graph.rows) (map replacement c.args.all.items) =
    kept_are graph.rows c.args.all.items c.in_ok-proposals.proposals.items (map replacement c.args.all.items) c.in_ok-proposals.ensures refl in
    IfOk-map c.first_of.result (λ found h. IfNone-map found (λ nothing. subst (λ (rs : List Replacement). All (SavesNothing graph.rows graph.observed) rs) are nothing) h) c.first_of.ensures.none
