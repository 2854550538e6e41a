use Rattle.std.proofs.Common.{IfOk, not, subst}
use Rattle.syn_graph.specs.declared.Graph.{Graph}
use Rattle.syn_pool.specs.Steps.{IsStepOf}
use Rattle.syn_pool.proofs.passes.steps.one_step.Goals as goal

pub returns-in_ok-viewed-2 : goal.returns-in_ok-viewed-2
returns-in_ok-viewed-2 g c =
    let strict = not c.args.pass.now.zero_gain in
    subst (λ (graph : Graph). IfOk c.check_step.result (IsStepOf graph (g.P.Proposer.proposals c.args.pass.now.proposer.now) strict)) c.in_ok-viewed-2.ensures.graph (c.check_step.ensures strict)
