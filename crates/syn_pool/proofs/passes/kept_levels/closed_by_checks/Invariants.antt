use Rattle.std.proofs.Common.{length}
use Rattle.syn_levels.specs.Levels.{IsNoDeeper}
use Rattle.syn_proposals.specs.Following.{Follows}
use Rattle.syn_pool.proofs.passes.kept_levels.closed_by_checks.Given as goal

abbrev pub invariant-loop-graph : goal.invariant-loop-graph
invariant-loop-graph g l = Follows l.start 0 l.graph × IsNoDeeper l.start l.graph

abbrev pub decreases-loop-graph : goal.decreases-loop-graph
decreases-loop-graph g l = length l.graph.rows
