use Rattle.std.proofs.Common.{not, subst, arith}
use Rattle.syn_pool.specs.Steps.{IsStepOf}
use Rattle.syn_pool.proofs.Chains.{chained}
use Rattle.syn_pool.proofs.Turning.{report_both}
use Rattle.syn_pool.proofs.passes.close.Goals as goal

pub returns-in-Ends-clause-follows : goal.returns-in-Ends-clause-follows
returns-in-Ends-clause-follows g c =
    let step = subst (IsStepOf c.loop-graph.graph (g.P.Proposer.proposals c.args.pass.now.proposer.now) (not c.args.pass.now.zero_gain)) c.in-Ends.is c.in_ok-one_step.ensures in
    let sum = c.both.ensures.gained in
    chained c.args.start.now c.loop-graph.graph c.in-Ends.next c.loop-graph.report.gained c.in-Ends.more.gained c.both.result.gained (omega arith) c.loop-graph.invariant.0 step.0

pub loop-graph-preserved : goal.loop-graph-preserved
loop-graph-preserved g c =
    let step = subst (IsStepOf c.loop-graph.graph (g.P.Proposer.proposals c.args.pass.now.proposer.now) (not c.args.pass.now.zero_gain)) c.in-GoesOn.is c.in_ok-one_step.ensures in
    let sum = c.both-report.ensures.gained in
    (chained c.args.start.now c.loop-graph.graph c.in-GoesOn.next c.loop-graph.report.gained c.in-GoesOn.more.gained c.both-report.result.gained (omega arith) c.loop-graph.invariant.0 step.0, λ strict. c.both-report.ensures.done (c.loop-graph.invariant.1 strict) (step.2 strict), report_both (not c.args.pass.now.zero_gain) c.args.start.now c.loop-graph.graph c.in-GoesOn.next c.loop-graph.report c.in-GoesOn.more c.both-report.result c.loop-graph.invariant.2 step.3 c.both-report.ensures.sum.0 c.both-report.ensures.sum.1)

pub returns-in-Ends-clause-report : goal.returns-in-Ends-clause-report
returns-in-Ends-clause-report g c =
    let step = subst (IsStepOf c.loop-graph.graph (g.P.Proposer.proposals c.args.pass.now.proposer.now) (not c.args.pass.now.zero_gain)) c.in-Ends.is c.in_ok-one_step.ensures in
    report_both (not c.args.pass.now.zero_gain) c.args.start.now c.loop-graph.graph c.in-Ends.next c.loop-graph.report c.in-Ends.more c.both.result c.loop-graph.invariant.2 step.3 c.both.ensures.sum.0 c.both.ensures.sum.1
