use Rattle.std.proofs.Common.{not, refl, subst, arith}
use Rattle.syn_pool.specs.Steps.{IsCheck, IsFewer}
use Rattle.syn_pool.proofs.Chains.{chained}
use Rattle.syn_pool.proofs.Turning.{report_both}
use Rattle.syn_pool.proofs.passes.steps.check_improved.Goals as goal

pub returns-in-Some : goal.returns-in-Some
returns-in-Some g c =
    let strict = not c.args.pass.now.zero_gain in
    let gained = c.args.improved.report.gained in
    let step : IsFewer c.args.improved.graph c.in-Some.next.report c.in-Some.next.graph = subst (IsCheck c.args.improved.graph (g.P.Proposer.proposals c.args.pass.now.proposer.now)) c.in-Some.is c.in_ok-made.ensures in
    let sum = c.both.ensures.gained in (
      chained c.args.graph.now c.args.improved.graph c.in-Some.next.graph gained c.in-Some.next.report.gained c.both.result.gained (omega arith) c.requires.follows step.0,
      omega (arith, step.1, c.requires.follows.count),
      λ is. c.both.ensures.done (c.requires.gain is) (step.2 refl),
      report_both strict c.args.graph.now c.args.improved.graph c.in-Some.next.graph c.args.improved.report c.in-Some.next.report c.both.result c.requires.report (step.3 strict) c.both.ensures.sum.0 c.both.ensures.sum.1,
    )
