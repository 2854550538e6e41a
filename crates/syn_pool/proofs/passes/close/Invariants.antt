use Rattle.std.proofs.Common.{not, length}
use Rattle.syn_proposals.specs.Following.{Follows}
use Rattle.syn_proposals.specs.Gains.{IsGain}
use Rattle.syn_pool.specs.Turns.{IsPassReport}
use Rattle.syn_pool.proofs.passes.close.Given as goal

abbrev pub invariant-loop-graph : goal.invariant-loop-graph
invariant-loop-graph g l = Follows l.start l.report.gained l.graph × IsGain (not l.pass.zero_gain) l.report × IsPassReport (not l.pass.zero_gain) l.start l.graph l.report

abbrev pub decreases-loop-graph : goal.decreases-loop-graph
decreases-loop-graph g l = length l.graph.rows
