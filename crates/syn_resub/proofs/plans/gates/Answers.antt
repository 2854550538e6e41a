use Rattle.std.proofs.Common.{◌<◌, length, ◌∙◌, arith}
use Rattle.syn_rows.specs.Rows.{row_at}
use Rattle.syn_resub.specs.Resubstitution.{gate_of}
use Rattle.syn_resub.proofs.Places.{mapped_more}
use Rattle.syn_resub.proofs.plans.gates.Goals as goal

pub loop-plan-preserved : goal.loop-plan-preserved
loop-plan-preserved c =
    let rows = c.args.graph.now.rows in
    let inner = c.args.inner.now in
    let lt : length c.loop-plan.plan.gates.items < length inner = omega (arith, c.loop-plan-test.true, c.len.ensures.value) in
    let step = mapped_more (λ n. gate_of c.args.leaves.now inner (row_at rows n)) inner c.loop-plan.plan.gates.items c.push_gate.new.plan.gates.items lt c.push_gate.ensures.gates c.loop-plan.invariant.gates in
    record {
      within = omega (arith, step.0, lt);
      leaves = c.push_gate.ensures.leaves ∙ c.loop-plan.invariant.leaves;
      gates = step.1;
    }
