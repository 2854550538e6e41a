use Rattle.syn_covering.specs.Needs.{IsSwept}
use Rattle.syn_covering.proofs.needs.sweep.Given as goal

abbrev pub invariant-loop-node : goal.invariant-loop-node
invariant-loop-node g l = IsSwept (g.C.Choice.leaves l.choice) l.rows l.observed l.marks l.node
