use Rattle.std.proofs.Common.{◌≤◌, IfOk, not, subst}
use Rattle.syn_graph.specs.declared.Graph.{Graph}
use Rattle.syn_proposals.specs.Following.{Follows}
use Rattle.syn_proposals.specs.Gains.{IsGain}
use Rattle.syn_proposals.proofs.Maps.{IfSome-at}
use Rattle.syn_pool.specs.Steps.{IsStepOf}
use Rattle.syn_pool.specs.Working.{IsRound}
use Rattle.syn_pool.proofs.Turning.{one_round}
use Rattle.syn_pool.proofs.Works.{is_false}
use Rattle.syn_pool.proofs.passes.steps.round_step.Goals as goal

pub goes_on-requires-clause-report : goal.goes_on-requires-clause-report
goes_on-requires-clause-report g c κs within =
    let was = c.args.viewed.graph.now in
    one_round (not c.args.pass.now.zero_gain) was c.in-Some.improved.graph c.args.pass.now.zero_gain c.in-Some.improved.report (is_false c.args.pass.now.zero_gain)
    (IfSome-at (λ m. IsRound was c.args.pass.now.zero_gain m.report m.graph) c.in_ok-improved.field-0 c.in-Some.improved c.in-Some.is c.in_ok-improved.ensures.round)
    (IfSome-at (λ m. 1 ≤ m.report.done) c.in_ok-improved.field-0 c.in-Some.improved c.in-Some.is c.in_ok-improved.ensures.done)
    (IfSome-at (λ m. Follows was m.report.gained m.graph) c.in_ok-improved.field-0 c.in-Some.improved c.in-Some.is c.in_ok-improved.ensures.follows)

pub goes_on-requires-clause-gain : goal.goes_on-requires-clause-gain
goes_on-requires-clause-gain g c κs within =
    IfSome-at (λ m. IsGain (not c.args.pass.now.zero_gain) m.report) c.in_ok-improved.field-0 c.in-Some.improved c.in-Some.is c.in_ok-improved.ensures.gain

pub returns : goal.returns
returns g c =
    let strict = not c.args.pass.now.zero_gain in
    subst (λ (graph : Graph). IfOk c.check_step.result (IsStepOf graph (g.P.Proposer.proposals c.args.pass.now.proposer.now) strict)) c.in_ok-own.ensures.graph (c.check_step.ensures strict)
