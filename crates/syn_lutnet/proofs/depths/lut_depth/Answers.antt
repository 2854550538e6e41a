use Rattle.std.proofs.Common.{arith}
use Rattle.syn_lutnet.proofs.LutDepths.{depths_low}
use Rattle.syn_lutnet.proofs.depths.lut_depth.Goals as goal

pub overflow_add-result : goal.overflow_add-result
overflow_add-result c = omega (arith, depths_low c.args.depths.now c.args.inputs.now c.requires.low)

pub returns-clause-low : goal.returns-clause-low
returns-clause-low c = omega (arith, depths_low c.args.depths.now c.args.inputs.now c.requires.low)
