use Rattle.std.proofs.Common.{◌-◌}
use Rattle.syn_resub.proofs.Scanned.{IsPutting}
use Rattle.syn_resub.proofs.divisors.put_fan_outs.Given as goal

abbrev pub invariant-loop-m : goal.invariant-loop-m
invariant-loop-m l = IsPutting l.graph.rows l.leaves l.node l.d l.m l.nodes.items

abbrev pub decreases-loop-m : goal.decreases-loop-m
decreases-loop-m l = l.node - l.m
