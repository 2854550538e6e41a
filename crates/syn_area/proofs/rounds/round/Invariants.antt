use Rattle.syn_area.specs.Kept.{AreVisited}
use Rattle.syn_area.proofs.rounds.round.Given as goal

abbrev pub invariant-loop-node : goal.invariant-loop-node
invariant-loop-node l = AreVisited l.k l.graph.rows l.lists.listed.items l.chosen
