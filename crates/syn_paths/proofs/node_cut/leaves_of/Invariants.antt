use Rattle.syn_paths.specs.Outcomes.{AreLeavesTo}
use Rattle.syn_paths.proofs.node_cut.leaves_of.Given as goal

abbrev pub invariant-loop-step : goal.invariant-loop-step
invariant-loop-step l = AreLeavesTo l.trail l.ins l.stamp l.step-index l.leaves.items
