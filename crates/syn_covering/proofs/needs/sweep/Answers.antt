use Rattle.std.proofs.Common.{◌-◌, arith}
use Rattle.syn_truth.specs.declared.TheConstants.{MAX_VARS}
use Rattle.syn_covering.proofs.Swept.{swept_step}
use Rattle.syn_covering.proofs.Assembled.{marked_in}
use Rattle.syn_covering.proofs.needs.sweep.Goals as goal

pub loop-node-preserved : goal.loop-node-preserved
loop-node-preserved g c =
    let cut = g.C.Choice.leaves c.args.choice.now in
    let rows = c.args.rows.now in
    let lits = c.args.observed.now in
    swept_step cut rows lits c.loop-node.marks c.mark_leaves.new.marks (c.loop-node.node - 1) c.loop-node.node (omega (arith, c.loop-node-test.true)) c.loop-node.invariant
    (marked_in MAX_VARS cut rows lits c.loop-node.marks c.loop-node.node c.requires.cuts c.loop-node.invariant (c.loop-node.node - 1)) c.mark_leaves.auto.marks c.mark_leaves.ensures
