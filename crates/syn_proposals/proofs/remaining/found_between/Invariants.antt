use Rattle.std.proofs.Common.{◌-◌, ◌≤◌, All, map}
use Rattle.syn_gain.specs.Proposals.{replacement}
use Rattle.syn_proposals.specs.Leftovers.{AreLeftovers, listed}
use Rattle.syn_proposals.specs.Sound.{IsSound}
use Rattle.syn_proposals.proofs.remaining.found_between.Given as goal

abbrev pub invariant-loop-place : goal.invariant-loop-place
invariant-loop-place g l = record {
  above : l.fn.from ≤ l.place;
  all : AreLeftovers l.graph.rows l.graph.observed (g.P.Proposer.proposals l.proposer l.graph.rows) (listed l.nodes) l.fn.from (l.place - l.fn.from) (map replacement l.found.items);
  sound : All (IsSound l.graph.rows) l.found.items;
}
