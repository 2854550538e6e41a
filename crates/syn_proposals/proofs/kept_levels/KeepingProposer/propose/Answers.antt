use Rattle.std.proofs.Common.{◌≡◌}
use Rattle.syn_gain.specs.declared.proposals.Proposal.{Proposal}
use Rattle.syn_proposals.specs.Sound.{IsSound}
use Rattle.syn_proposals.proofs.Kept.{kept_all, kept_are}
use Rattle.syn_proposals.proofs.Maps.{IfOk-map}
use Rattle.syn_proposals.proofs.kept_levels.KeepingProposer.propose.Goals as goal

pub returns-clause-proposals : goal.returns-clause-proposals
returns-clause-proposals g c =
    let rows = c.args.graph.now.rows in
    IfOk-map c.kept.result (λ v is. kept_are rows c.in_ok-all.all.items v.items (g.P.Proposer.proposals c.args.self.now.proposer rows c.args.node) is c.in_ok-all.ensures.proposals) c.kept.ensures

pub returns-clause-roots : goal.returns-clause-roots
returns-clause-roots g c =
    IfOk-map c.kept.result (λ v is. kept_all (λ (p : Proposal). p.root ≡ c.args.node) c.args.graph.now.rows c.in_ok-all.all.items v.items is c.in_ok-all.ensures.roots) c.kept.ensures

pub returns-clause-sound : goal.returns-clause-sound
returns-clause-sound g c =
    IfOk-map c.kept.result (λ v is. kept_all (IsSound c.args.graph.now.rows) c.args.graph.now.rows c.in_ok-all.all.items v.items is c.in_ok-all.ensures.sound) c.kept.ensures
