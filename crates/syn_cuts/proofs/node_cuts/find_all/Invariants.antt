use Rattle.std.proofs.Common.{All}
use Rattle.syn_cuts.specs.Lists.{IsFound}
use Rattle.syn_cuts.proofs.node_cuts.find_all.Given as goal

abbrev pub invariant-loop-node : goal.invariant-loop-node
invariant-loop-node l = All (IsFound l.k l.rows) l.found
