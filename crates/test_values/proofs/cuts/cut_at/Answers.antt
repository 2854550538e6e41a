use Rattle.std.proofs.Common.{ℕ, ◌<◌, All, List, length, sym, ap, ◌∙◌, subst, arith}
use Rattle.std.proofs.Math.ListN.{get_or-map}
use Rattle.std.proofs.lemmas.List.{length-map}
use Rattle.syn_cones.specs.Cones.{IsCut}
use Rattle.syn_cuts.specs.Leaves.{leaves, leaves_of}
use Rattle.test_values.proofs.cuts.cut_at.Goals as goal

pub returns : goal.returns
returns c =
    let rows = c.args.graph.now.rows in
    let node = c.args.node in
    let cuts = c.of-cuts.result.now in
    let there : node < length rows = omega (arith, c.if-node-as_slice.false, ap length c.as_slice.ensures) in
    let cut = c.index-cuts-place.result in
    let each : All (λ k. IsCut rows k node) (leaves_of cuts) = subst (λ (l : List (List ℕ)). All (λ k. IsCut rows k node) l) (sym c.of-cuts.ensures) (c.requires node there) in
    (there, subst (λ (l : List ℕ). IsCut rows l node) (get_or-map leaves cuts c.args.place cut ∙ ap leaves (sym c.index-cuts-place.is)) (each c.args.place (leaves cut) (omega (arith, c.if-place-cuts.false, length-map cuts leaves))))
