use Rattle.std.proofs.Common.{◌<◌, subst, rules}
use Rattle.syn_rows.specs.Nodes.{has_node}
use Rattle.syn_fanout_free.specs.Bounding.{IsHeld}
use Rattle.syn_fanout_free.proofs.Bounded.{has_place}
use Rattle.syn_fanout_free.proofs.bound.are_held.Goals as goal

pub returns : goal.returns
returns c = λ ok m h.
    let place = has_place c.args.spared.now m h in
    let there : place.0 < c.loop-node.node-index = search rules in
    subst (IsHeld c.args.was.now c.args.n (has_node c.args.used.now)) place.2 (c.loop-node.invariant place.0 there)
