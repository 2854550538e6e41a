use Rattle.std.proofs.Common.{[], ◌<◌, ◌-◌, length, subst, arith}
use Rattle.std.proofs.lemmas.Grind.{common_steps}
use Rattle.syn_paths.specs.Walking.{IsTopWalk}
use Rattle.syn_paths.proofs.Checked.{none_marked, up_to_all, up_to_more}
use Rattle.syn_paths.proofs.Starting.{are_starts, starts_all, starts_none}
use Rattle.syn_paths.proofs.Walked.{mark_all_long, refs_stand, taken_stands, top_ends, top_begins, top_turn, turn_less}
use Rattle.syn_cones.specs.Cones.{refs_at}
use Rattle.syn_paths.proofs.tops.mark_below.Goals as goal

pub enter_refs-requires-clause-node : goal.enter_refs-requires-clause-node
enter_refs-requires-clause-node c =
    let walk = subst (λ l. IsTopWalk c.args.rows.now c.args.labels.now c.args.root c.args.level c.loop-node.marks c.args.stamp l []) c.in-Some.ensures.items c.loop-node.invariant.walk in
    omega (arith, c.requires.root, taken_stands c.args.rows.now c.args.labels.now c.args.root c.args.level c.loop-node.marks c.args.stamp c.pop.new.self.items c.in-Some.node c.requires.order walk)

pub loop-node-smaller : goal.loop-node-smaller
loop-node-smaller c =
    let walk = subst (λ l. IsTopWalk c.args.rows.now c.args.labels.now c.args.root c.args.level c.loop-node.marks c.args.stamp l []) c.in-Some.ensures.items c.loop-node.invariant.walk in
    let lt : c.args.root < length c.loop-node.marks = omega (arith, c.requires.root, c.loop-node.invariant.long) in
    let less = turn_less c.args.rows.now c.args.labels.now c.args.root c.args.level c.loop-node.marks c.args.stamp c.pop.new.self.items c.in-Some.node c.requires.order lt walk in
    rw (c.in_ok-enter_refs.ensures.marks, c.in_ok-enter_refs.ensures.waiting, c.in-Some.ensures.items) less

pub loop-node-preserved : goal.loop-node-preserved
loop-node-preserved c =
    let walk = subst (λ l. IsTopWalk c.args.rows.now c.args.labels.now c.args.root c.args.level c.loop-node.marks c.args.stamp l []) c.in-Some.ensures.items c.loop-node.invariant.walk in
    let lt : c.args.root < length c.loop-node.marks = omega (arith, c.requires.root, c.loop-node.invariant.long) in
    record {
      stamps = rw c.in_ok-enter_refs.ensures.marks (up_to_all c.loop-node.marks c.args.stamp (refs_at c.args.rows.now c.in-Some.node) c.loop-node.invariant.stamps);
      long = rw c.in_ok-enter_refs.ensures.marks (omega (arith, mark_all_long c.loop-node.marks c.args.stamp (refs_at c.args.rows.now c.in-Some.node), c.loop-node.invariant.long));
      walk = rw (c.in_ok-enter_refs.ensures.marks, c.in_ok-enter_refs.ensures.waiting)
          (top_turn c.args.rows.now c.args.labels.now c.args.root c.args.level c.loop-node.marks c.args.stamp c.pop.new.self.items c.in-Some.node c.requires.order lt walk);
      starts = rw (c.in_ok-enter_refs.ensures.marks, c.in_ok-enter_refs.ensures.starts)
          (starts_all c.args.labels.now c.args.level c.loop-node.marks c.args.stamp c.loop-node.starts.items (refs_at c.args.rows.now c.in-Some.node)
          (refs_stand c.args.rows.now c.in-Some.node (length c.loop-node.marks) c.requires.order (omega (arith, lt, taken_stands c.args.rows.now c.args.labels.now c.args.root c.args.level c.loop-node.marks c.args.stamp c.pop.new.self.items c.in-Some.node c.requires.order walk)))
          c.loop-node.invariant.starts);
    }

pub returns-clause-below : goal.returns-clause-below
returns-clause-below c =
    top_ends c.args.rows.now c.args.labels.now c.args.root c.args.level c.loop-node.marks c.args.stamp c.requires.order c.requires.falls c.requires.low
    (subst (λ l. IsTopWalk c.args.rows.now c.args.labels.now c.args.root c.args.level c.loop-node.marks c.args.stamp l []) (grind (arith, common_steps)) c.loop-node.invariant.walk)

pub returns-clause-starts : goal.returns-clause-starts
returns-clause-starts c =
    let below = top_ends c.args.rows.now c.args.labels.now c.args.root c.args.level c.loop-node.marks c.args.stamp c.requires.order c.requires.falls c.requires.low
    (subst (λ l. IsTopWalk c.args.rows.now c.args.labels.now c.args.root c.args.level c.loop-node.marks c.args.stamp l []) (grind (arith, common_steps)) c.loop-node.invariant.walk) in
    are_starts c.args.rows.now c.args.labels.now c.args.root c.args.level c.loop-node.marks c.args.stamp c.loop-node.starts.items c.requires.order c.requires.falls c.requires.low below c.loop-node.invariant.starts

pub loop-node-init : goal.loop-node-init
loop-node-init c =
    let none = none_marked c.args.marks.now (c.args.stamp - 1) c.args.stamp c.requires.stamps (omega (arith, c.requires.stamp)) in
    record {
      stamps = up_to_more c.args.marks.now (c.args.stamp - 1) c.args.stamp c.requires.stamps (omega arith);
      long = c.requires.marks;
      walk = rw (c.in_ok-push.ensures.items, c.requires.empty) (top_begins c.args.rows.now c.args.labels.now c.args.root c.args.level c.args.marks.now c.args.stamp none);
      starts = rw c.requires.none (starts_none c.args.labels.now c.args.level c.args.marks.now c.args.stamp none);
    }
