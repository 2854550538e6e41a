use Rattle.syn_cuts.specs.Lists.{AreListed}
use Rattle.syn_cuts.proofs.node_cuts.set_each.Given as goal

abbrev pub invariant-loop-found : goal.invariant-loop-found
invariant-loop-found l = AreListed l.k l.rows l.lists
