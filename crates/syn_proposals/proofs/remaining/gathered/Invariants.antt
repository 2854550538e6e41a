use Rattle.std.proofs.Common.{All}
use Rattle.syn_proposals.specs.Leftovers.{IsPartOf}
use Rattle.syn_proposals.proofs.remaining.gathered.Given as goal

abbrev pub invariant-loop-more : goal.invariant-loop-more
invariant-loop-more g l = All (IsPartOf l.graph.rows l.graph.observed (g.P.Proposer.proposals l.proposer l.graph.rows) l.nodes) l.parts.items
