use Rattle.std.proofs.Common.{◌≡◌, ◌^◌, ◌<◌, Some, None, refl, rules, sym, ap, ◌∙◌, subst, arith}
use Rattle.syn_growing.specs.Cones.{AreLeaves}
use Rattle.syn_growing.specs.Growing.{cone_of, next_leaf}
use Rattle.syn_growing.proofs.Choosing.{chooses_next_leaf, next_may}
use Rattle.syn_growing.proofs.Falling.{GrowsTo, begins_below, grows_no_more, grows_on, weight, weight_falls}
use Rattle.syn_growing.proofs.Replacing.{fan_ins_are, replaced_are}
use Rattle.syn_growing.proofs.grown_cone.grown_leaves.Goals as goal

pub loop-leaf-init : goal.loop-leaf-init
loop-leaf-init c =
    let rows = c.args.rows.now in
    let node = c.args.node in
    let is = c.over_fan_ins-cone.ensures in
    record {
      growing = subst (λ cone. GrowsTo rows cone (cone_of rows node)) (sym is) (2 ^ node, begins_below rows node c.requires.rows c.requires.gate, refl);
      are = subst (λ cone. AreLeaves rows node cone.leaves) (sym is) (fan_ins_are rows node c.requires.rows c.requires.gate);
    }

pub replace-requires-clause-there : goal.replace-requires-clause-there
replace-requires-clause-there c =
    let rows = c.args.rows.now in
    let are = c.loop-leaf.invariant.are in
    let some : next_leaf rows c.loop-leaf.cone ≡ Some c.in-Some.leaf = search rules in
    let next = chooses_next_leaf rows c.loop-leaf.cone c.in-Some.leaf are.rise some in
    omega (arith, (are.within c.in-Some.leaf next.there).1, c.requires.there)

pub replace-requires-clause-may : goal.replace-requires-clause-may
replace-requires-clause-may c =
    let rows = c.args.rows.now in
    let some : next_leaf rows c.loop-leaf.cone ≡ Some c.in-Some.leaf = search rules in
    (chooses_next_leaf rows c.loop-leaf.cone c.in-Some.leaf c.loop-leaf.invariant.are.rise some).may

pub loop-leaf-smaller : goal.loop-leaf-smaller
loop-leaf-smaller c =
    let rows = c.args.rows.now in
    let cone = c.loop-leaf.cone in
    let leaf = c.in-Some.leaf in
    let some : next_leaf rows cone ≡ Some leaf = search rules in
    let next = chooses_next_leaf rows cone leaf c.loop-leaf.invariant.are.rise some in
    subst (λ after. weight after.leaves < weight cone.leaves) (sym c.replace.ensures) (weight_falls rows cone.leaves leaf c.requires.rows next.there (next_may rows cone leaf next).gate)

pub loop-leaf-preserved : goal.loop-leaf-preserved
loop-leaf-preserved c =
    let rows = c.args.rows.now in
    let node = c.args.node in
    let cone = c.loop-leaf.cone in
    let leaf = c.in-Some.leaf in
    let are = c.loop-leaf.invariant.are in
    let some : next_leaf rows cone ≡ Some leaf = search rules in
    let next = chooses_next_leaf rows cone leaf are.rise some in
    let may = next_may rows cone leaf next in
    record {
      growing = subst (λ after. GrowsTo rows after (cone_of rows node)) (sym c.replace.ensures)
          (grows_on rows cone (cone_of rows node) leaf (weight_falls rows cone.leaves leaf c.requires.rows next.there may.gate) some c.loop-leaf.invariant.growing);
      are = subst (λ after. AreLeaves rows node after.leaves) (sym c.replace.ensures) (replaced_are rows node cone.leaves leaf c.requires.rows are next.there may.gate may.few);
    }

pub returns-clause-leaves : goal.returns-clause-leaves
returns-clause-leaves c =
    let rows = c.args.rows.now in
    let cone = c.loop-leaf.cone in
    let none : next_leaf rows cone ≡ None = search rules in
    ap (λ v. v.leaves) c.cone.view_is ∙ ap (λ v. v.leaves) (grows_no_more rows cone (cone_of rows c.args.node) none c.loop-leaf.invariant.growing)
