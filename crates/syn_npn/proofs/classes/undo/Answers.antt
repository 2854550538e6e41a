use Rattle.std.proofs.Common.{◌∙◌, ap, ap₂, arith}
use Rattle.syn_npn.specs.Images.{is_permutation, moved}
use Rattle.syn_npn.specs.Transforms.{image_of}
use Rattle.syn_npn.specs.Values.{image_by}
use Rattle.syn_npn.proofs.Undoing.{inverse-permutes, image_by-redone, image_by-undone, moved-lt}
use Rattle.syn_npn.proofs.classes.undo.Goals as goal

pub moved_flips-requires : goal.moved_flips-requires
moved_flips-requires c = ap is_permutation c.places-perm.ensures ∙ inverse-permutes c.args.transform.perm c.args.transform.permutes

pub returns-clause-redone : goal.returns-clause-redone
returns-clause-redone c = λ f h.
    let t = c.args.transform in
    let perm = c.places-perm.ensures in
    let flips = c.moved_flips.ensures ∙ ap (λ p. moved p t.flips) perm in
    ap (image_of t) (ap₂ (λ p k. image_by p k t.neg f) perm flips)
    ∙ image_by-redone t.perm t.flips t.neg f t.permutes t.few h

pub returns-clause-undone : goal.returns-clause-undone
returns-clause-undone c = λ f h.
    let t = c.args.transform in
    let perm = c.places-perm.ensures in
    let flips = c.moved_flips.ensures ∙ ap (λ p. moved p t.flips) perm in
    ap₂ (λ p k. image_by p k t.neg (image_of t f)) perm flips
    ∙ image_by-undone t.perm t.flips t.neg f t.permutes t.few h

pub invariant_of-result-clause-few : goal.invariant_of-result-clause-few
invariant_of-result-clause-few c = omega (arith, c.moved_flips.ensures, moved-lt c.places-perm.result c.args.transform.flips)

pub invariant_of-result-clause-permutes : goal.invariant_of-result-clause-permutes
invariant_of-result-clause-permutes c = ap is_permutation c.places-perm.ensures ∙ inverse-permutes c.args.transform.perm c.args.transform.permutes
