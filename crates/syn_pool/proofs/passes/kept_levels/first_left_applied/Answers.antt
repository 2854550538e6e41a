use Rattle.syn_proposals.specs.Sound.{IsLeftover}
use Rattle.syn_proposals.proofs.Kept.{leftover_keeps}
use Rattle.syn_proposals.proofs.Maps.{All-read, IfOk-map}
use Rattle.syn_pool.proofs.passes.kept_levels.first_left_applied.Goals as goal

pub first_applied-requires-clause-sound : goal.first_applied-requires-clause-sound
first_applied-requires-clause-sound g c =
    let graph = c.args.graph.now in
    (All-read (IsLeftover graph.rows graph.observed (g.K.Proposer.proposals c.args.proposer.now graph.rows)) c.args.found.now 0 c.index-found-0.result c.requires.some c.index-found-0.is c.requires.each).sound

pub first_applied-requires-clause-saves : goal.first_applied-requires-clause-saves
first_applied-requires-clause-saves g c =
    let graph = c.args.graph.now in
    (All-read (IsLeftover graph.rows graph.observed (g.K.Proposer.proposals c.args.proposer.now graph.rows)) c.args.found.now 0 c.index-found-0.result c.requires.some c.index-found-0.is c.requires.each).first.first.saves

pub returns-clause-levels : goal.returns-clause-levels
returns-clause-levels g c =
    let graph = c.args.graph.now in
    let proposals = g.K.Proposer.proposals c.args.proposer.now in
    IfOk-map c.first_applied.result
    (λ next lower. lower (leftover_keeps proposals c.requires.keep graph.rows graph.observed c.index-found-0.result
    (All-read (IsLeftover graph.rows graph.observed (proposals graph.rows)) c.args.found.now 0 c.index-found-0.result c.requires.some c.index-found-0.is c.requires.each))) c.first_applied.ensures.levels
