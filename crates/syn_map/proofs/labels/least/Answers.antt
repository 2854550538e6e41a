use Rattle.std.proofs.Common.{◌≡◌, ℕ, ◌∷◌, rules, sym, ap, ◌∙◌}
use Rattle.syn_rows.specs.Levels.{level_in}
use Rattle.syn_cuts.specs.Leaves.{leaves, leaves_of}
use Rattle.syn_lutnet.specs.LutData.{greatest}
use Rattle.syn_map.specs.Labels.{least}
use Rattle.syn_map.proofs.Leastness.{least_after, least_from, least_next}
use Rattle.syn_map.proofs.labels.least.Goals as goal

pub loop-cut-init : goal.loop-cut-init
loop-cut-init c =
    let label : ℕ → ℕ = level_in c.args.labels.now in
    let split : c.args.cuts.now ≡ c.in-Some.first.now ∷ c.in-Some.rest.now = search rules in
    ap (λ x. least_after label x (leaves_of c.in-Some.rest.now)) (c.greatest_depth-least.ensures ∙ ap (greatest label) c.as_slice.ensures.value)
    ∙ least_from label (leaves c.in-Some.first.now) (leaves_of c.in-Some.rest.now) ∙ ap (least label) (ap leaves_of (sym split))

pub loop-cut-preserved : goal.loop-cut-preserved
loop-cut-preserved c =
    let label : ℕ → ℕ = level_in c.args.labels.now in
    least_next label c.in-Some.rest.now c.loop-cut.cut-index c.cut-item.result c.loop-cut.least c.greatest_depth.result c.lesser-least.result (least label (leaves_of c.args.cuts.now)) c.loop-cut-test.true c.cut-item.is
    (c.greatest_depth.ensures ∙ ap (greatest label) c.as_slice-in-loop-cut.ensures.value) c.lesser-least.ensures c.loop-cut.invariant
