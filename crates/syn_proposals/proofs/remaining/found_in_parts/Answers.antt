use Rattle.std.proofs.Common.{rules, ◌-◌, length, map}
use Rattle.syn_gain.specs.Proposals.{replacement}
use Rattle.syn_proposals.specs.Leftovers.{AreLeftovers, listed}
use Rattle.syn_proposals.specs.Sound.{IsSound}
use Rattle.syn_proposals.proofs.Gathered.{with_span}
use Rattle.syn_proposals.proofs.Maps.{both_found}
use Rattle.syn_proposals.proofs.remaining.found_in_parts.Goals as goal

pub returns-clause-all : goal.returns-clause-all
returns-clause-all g c =
    let graph = c.args.graph.now in
    let proposals = g.P.Proposer.proposals c.args.proposer.now graph.rows in
    let nodes = c.args.nodes.now in
    let behind : AreLeftovers graph.rows graph.observed proposals (listed nodes) c.loop-part.reached (length nodes - c.loop-part.reached) (map replacement c.in_ok-more.more.items) = search rules in
    with_span graph.rows graph.observed proposals (listed nodes) c.loop-part.reached (length nodes) c.loop-part.found.items c.in_ok-more.more.items c.append.new.self.items
    c.loop-part.invariant.within c.loop-part.invariant.all behind c.in_ok-append.ensures.items

pub returns-clause-sound : goal.returns-clause-sound
returns-clause-sound g c =
    both_found (IsSound c.args.graph.now.rows) c.loop-part.found.items c.in_ok-more.more.items c.append.new.self.items c.in_ok-append.ensures.items c.loop-part.invariant.sound c.in_ok-more.ensures.sound
