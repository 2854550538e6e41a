use Rattle.std.proofs.Common.{drop}
use Rattle.syn_paths.specs.Rooms.{AreTouched}
use Rattle.syn_paths.proofs.node_cut.take_all_off.Given as goal

abbrev pub invariant-loop-node : goal.invariant-loop-node
invariant-loop-node l = AreTouched l.next (drop l.node-index l.touched)
