use Rattle.std.proofs.lemmas.List.Elements.{All-push, All-same}
use Rattle.std.proofs.Common.{◌++◌, ◌∷◌, []}
use Rattle.syn_proposals.specs.Leftovers.{IsPartOf}
use Rattle.syn_proposals.proofs.remaining.parts_drawn.Goals as goal

pub loop-turn-preserved : goal.loop-turn-preserved
loop-turn-preserved g c =
    let graph = c.args.graph.now in
    let fact = IsPartOf graph.rows graph.observed (g.P.Proposer.proposals c.args.proposer.now graph.rows) c.args.nodes.now in
    All-same fact c.push.new.self.items (c.loop-turn.parts.items ++ c.in_ok-part.part ∷ []) c.in_ok-push.ensures.items
    (All-push fact c.loop-turn.parts.items c.in_ok-part.part c.loop-turn.invariant c.in_ok-part.ensures)
