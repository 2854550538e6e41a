use Rattle.std.proofs.Common.{◌≤◌, arith}
use Rattle.syn_proposals.specs.Leftovers.{listed}
use Rattle.syn_proposals.specs.Sound.{IsSound}
use Rattle.syn_proposals.proofs.Gathered.{one_node}
use Rattle.syn_proposals.proofs.Maps.{with_found}
use Rattle.syn_proposals.proofs.remaining.found_between.Goals as goal

pub loop-place-preserved : goal.loop-place-preserved
loop-place-preserved g c =
    let graph = c.args.graph.now in
    let low : c.args.from ≤ c.loop-place.place = c.loop-place.invariant.above in
    record {
      above = omega arith;
      all = one_node graph.rows graph.observed (g.P.Proposer.proposals c.args.proposer.now graph.rows) (listed c.args.nodes.now) c.args.from c.loop-place.place c.loop-place.found.items c.add_found.new.found.items c.in_ok-first.first
          low c.loop-place.invariant.all c.in_ok-first.ensures.added c.in_ok-add_found.ensures;
      sound = with_found (IsSound graph.rows) c.loop-place.found.items c.add_found.new.found.items c.in_ok-first.first c.in_ok-add_found.ensures c.loop-place.invariant.sound c.in_ok-first.ensures.sound;
    }
