use Rattle.std.proofs.Common.{All, ap, sym, ◌∙◌}
use Rattle.syn_gain.specs.Proposals.{replacement}
use Rattle.syn_levels.specs.Levels.{keeps_level}
use Rattle.syn_proposals.specs.Closing.{IsFirst, SavesNothing}
use Rattle.syn_proposals.proofs.Borrowed.{borrowed_is}
use Rattle.syn_proposals.proofs.Kept.{first_kept, none_kept}
use Rattle.syn_proposals.proofs.Maps.{IfNone-at, IfSome-at}
use Rattle.syn_proposals.proofs.kept_levels.KeepingProposer.first_saving.Goals as goal

pub returns-in_default-clause-none : goal.returns-in_default-clause-none
returns-in_default-clause-none g c =
    let graph = c.args.graph.now in
    let all = g.P.Proposer.proposals c.args.self.now.proposer graph.rows c.args.node in
    none_kept graph.rows graph.observed all (IfNone-at (All (SavesNothing graph.rows graph.observed) all) c.in_ok-first.field-0 c.in_default.is c.in_ok-first.ensures.none)

pub returns-then-keeps-clause-first : goal.returns-then-keeps-clause-first
returns-then-keeps-clause-first g c =
    let graph = c.args.graph.now in
    let all = g.P.Proposer.proposals c.args.self.now.proposer graph.rows c.args.node in
    first_kept graph.rows graph.observed all (replacement c.in-Some.first)
    (sym (ap (keeps_level graph.rows) (borrowed_is c.borrow.result c.in-Some.first c.borrow.ensures.root c.borrow.ensures.leaves c.borrow.ensures.plan)) ∙ sym c.in_ok-keeps.ensures ∙ c.if-keeps.true)
    (IfSome-at (λ p. IsFirst graph.rows graph.observed all (replacement p)) c.in_ok-first.field-0 c.in-Some.first c.in-Some.is c.in_ok-first.ensures.first)
