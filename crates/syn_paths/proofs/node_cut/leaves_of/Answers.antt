use Rattle.std.proofs.Common.{◌≡◌, ◌+◌, ℕ, List, length, suc, sym, subst, arith}
use Rattle.syn_paths.specs.Outcomes.{AreLeavesTo, with_leaf}
use Rattle.syn_paths.specs.Searching.{place_at}
use Rattle.syn_paths.proofs.Chosen.{leaf_last, leaves_more}
use Rattle.syn_paths.proofs.node_cut.leaves_of.Goals as goal

pub add_leaf-requires-clause-few : goal.add_leaf-requires-clause-few
add_leaf-requires-clause-few c =
    let trail = c.args.trail.now in
    let i = c.loop-step.step-index in
    let more = leaves_more trail c.args.ins.now c.args.stamp i c.loop-step.leaves.items c.loop-step.invariant in
    c.requires.few (with_leaf c.args.ins.now c.args.stamp c.loop-step.leaves.items (place_at trail i)) more.rise
    (λ v there. leaf_last trail c.args.ins.now c.args.stamp (suc i) (length trail) v (omega (arith, c.loop-step-test.true)) (more.leaf v there))

pub loop-step-preserved : goal.loop-step-preserved
loop-step-preserved c =
    let trail = c.args.trail.now in
    let i = c.loop-step.step-index in
    let more = leaves_more trail c.args.ins.now c.args.stamp i c.loop-step.leaves.items c.loop-step.invariant in
    let one : suc i ≡ i + 1 = omega arith in
    subst (λ k. AreLeavesTo trail c.args.ins.now c.args.stamp k c.add_leaf.new.leaves.items) one
    (subst (λ (l : List ℕ). AreLeavesTo trail c.args.ins.now c.args.stamp (suc i) l) (sym c.add_leaf.ensures) more)
