use Rattle.std.proofs.Common.{arith}
use Rattle.syn_levels.specs.Levels.{IsNoDeeper}
use Rattle.syn_proposals.specs.Following.{Follows}
use Rattle.syn_proposals.proofs.Maps.{IfSome-at}
use Rattle.syn_pool.proofs.Chains.{chained}
use Rattle.syn_pool.proofs.passes.kept_levels.closed_by_checks.Goals as goal

pub loop-graph-preserved : goal.loop-graph-preserved
loop-graph-preserved g c =
    let graph = c.loop-graph.graph in
    let next = c.in-Some-2.next in
    let found = c.in_ok-next.field-0 in
    let follows = IfSome-at (Follows graph 1) found next c.in-Some-2.is c.in_ok-next.ensures.follows in
    let levels = IfSome-at (IsNoDeeper graph) found next c.in-Some-2.is c.in_ok-next.ensures.levels in
    (chained c.args.start.now graph next 0 1 0 (omega arith) c.loop-graph.invariant.0 follows, λ i. omega (arith, c.loop-graph.invariant.1 i, levels i))
