use Rattle.std.proofs.Common.{◌≡◌, ◌++◌, ◌∷◌, [], ap, reverse, subst, true, arith}
use Rattle.syn_cones.specs.Walk.{IsConeWalk, rises, top}
use Rattle.syn_rows.proofs.Nodes.{has_here, has_right}
use Rattle.syn_cones.proofs.Walking.{led_below, walk_on, rises_done, rises_first, top_falls}
use Rattle.syn_cones.proofs.cones.cone_of.Goals as goal

pub visit-requires : goal.visit-requires
visit-requires c =
    let n = c.in-Some.node in
    let front = c.pop.new.self.items in
    let done = c.loop-node.cone.items in
    let rows = c.args.rows.now in
    let walk = subst (IsConeWalk rows c.args.leaves.now c.args.root done) c.in-Some.ensures.items c.loop-node.invariant.walk in
    let here = walk.led n (has_right done (front ++ n ∷ []) n (has_right front (n ∷ []) n (has_here n []))) in
    let low = led_below rows c.args.leaves.now c.args.root here.0 n c.requires.order here.1 in
    omega (arith, low, c.requires.root)

pub loop-node-smaller : goal.loop-node-smaller
loop-node-smaller c =
    let n = c.in-Some.node in
    let front = c.pop.new.self.items in
    let less = top_falls c.args.rows.now c.args.leaves.now front n c.requires.order (rises_first (front ++ n ∷ []) (reverse c.loop-node.cone.items) (subst (λ l. rises (l ++ reverse c.loop-node.cone.items) ≡ true) c.in-Some.ensures.items c.loop-node.invariant.rising)) in
    let now = ap top c.in_ok-visit.ensures in
    let old = ap top c.in-Some.ensures.items in
    omega (arith, less, now, old)

pub loop-node-preserved : goal.loop-node-preserved
loop-node-preserved c =
    let n = c.in-Some.node in
    let front = c.pop.new.self.items in
    let done = c.loop-node.cone.items in
    let rows = c.args.rows.now in
    let leaves = c.args.leaves.now in
    record {
      walk = rw (c.in_ok-push-2.ensures.ok, c.in_ok-visit.ensures)
          (walk_on rows leaves c.args.root done front n c.requires.order (subst (IsConeWalk rows leaves c.args.root done) c.in-Some.ensures.items c.loop-node.invariant.walk));
      rising = rw (c.in_ok-push-2.ensures.ok, c.in_ok-visit.ensures) (rises_done rows leaves done front n c.requires.order (subst (λ l. rises (l ++ reverse done) ≡ true) c.in-Some.ensures.items c.loop-node.invariant.rising));
    }
