use Rattle.std.proofs.Common.{ap, length, arith}
use Rattle.syn_gain.specs.Proposals.{replacement_of}
use Rattle.syn_plan.specs.declared.plan.Plan.{Plan}
use Rattle.test_values.proofs.saved.applied_to.Goals as goal

pub applied-requires-clause-few : goal.applied-requires-clause-few
applied-requires-clause-few c =
    omega (
      arith,
      c.rows_after_are_few.ensures c.args.graph.now.rows (replacement_of c.borrow.result),
      ap length c.as_slice-gates.ensures.value,
      ap length c.as_slice.ensures,
      ap (λ (p : Plan). length p.gates.items) c.borrow.ensures.plan,
      c.if-as_slice-gates-ge-NODE_LIMIT.false,
    )
