use Rattle.std.proofs.Common.{◌≡◌, ◌<◌, ◌∙◌, get_or, length, refl, ap, sym, subst}
use Rattle.syn_rows.proofs.Nodes.{has_at}
use Rattle.syn_growing.proofs.grown_cone.Cone.next_leaf.Goals as goal

pub count_within-requires-clause-there : goal.count_within-requires-clause-there
count_within-requires-clause-there c =
    let leaves = c.args.self.now.leaves in
    let same : c.as_slice-leaf-items.result.now ≡ leaves = c.as_slice-leaf-items.ensures.value ∙ ap (λ v. v.leaves) c.self.view_is in
    let within : c.loop-leaf.leaf-index < length leaves = subst (λ ls. c.loop-leaf.leaf-index < length ls) same c.loop-leaf-test.true in
    subst (λ ls. get_or ls c.loop-leaf.leaf-index 0 < length c.args.rows.now) (sym same) (c.requires.there (get_or leaves c.loop-leaf.leaf-index 0) (has_at leaves c.loop-leaf.leaf-index (get_or leaves c.loop-leaf.leaf-index 0) within refl))
