use Rattle.std.proofs.Common.{All}
use Rattle.syn_proposals.specs.Leftovers.{IsPartOf}
use Rattle.syn_proposals.proofs.remaining.parts_drawn.Given as goal

abbrev pub invariant-loop-turn : goal.invariant-loop-turn
invariant-loop-turn g l = All (IsPartOf l.graph.rows l.graph.observed (g.P.Proposer.proposals l.proposer l.graph.rows) l.nodes) l.parts.items
