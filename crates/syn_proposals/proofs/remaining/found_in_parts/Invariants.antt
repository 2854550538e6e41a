use Rattle.std.proofs.Common.{◌≤◌, All, length, map}
use Rattle.syn_gain.specs.Proposals.{replacement}
use Rattle.syn_proposals.specs.Leftovers.{AreLeftovers, listed}
use Rattle.syn_proposals.specs.Sound.{IsSound}
use Rattle.syn_proposals.proofs.remaining.found_in_parts.Given as goal

abbrev pub invariant-loop-part : goal.invariant-loop-part
invariant-loop-part g l = record {
  within : l.reached ≤ length l.nodes;
  all : AreLeftovers l.graph.rows l.graph.observed (g.P.Proposer.proposals l.proposer l.graph.rows) (listed l.nodes) 0 l.reached (map replacement l.found.items);
  sound : All (IsSound l.graph.rows) l.found.items;
}
