use Rattle.std.proofs.Common.{arith}
use Rattle.syn_cuts.specs.Leaves.{leaves_of}
use Rattle.syn_map.proofs.Leastness.{least_low}
use Rattle.syn_map.proofs.labels.row_label.Goals as goal

pub overflow_add-result : goal.overflow_add-result
overflow_add-result c = omega (arith, c.least.ensures, least_low c.args.labels.now (leaves_of c.nontrivial.result.now) c.requires.low, c.requires.few)

pub returns-in-And-clause-low : goal.returns-in-And-clause-low
returns-in-And-clause-low c = omega (arith, c.least.ensures, least_low c.args.labels.now (leaves_of c.nontrivial.result.now) c.requires.low)
