use Rattle.std.proofs.Common.{drop, sym, ◌∙◌, arith}
use Rattle.syn_weighing.specs.Weighing.{weight_of}
use Rattle.syn_weighing.proofs.GoingOn.{until_ends}
use Rattle.syn_weighing.proofs.dry_runs.dry_run_gates.Goals as goal

pub returns-then-len-most-clause-told : goal.returns-then-len-most-clause-told
returns-then-len-most-clause-told c = λ _.
    sym c.loop-gate.invariant.rest
    ∙ until_ends c.args.below.now.rows.now c.args.below.now.root c.args.most (drop c.loop-gate.gate-index c.args.gates.now) (weight_of c.loop-gate.weighed) (omega (arith, c.if-len-most.true, c.len.ensures))
