use Rattle.std.proofs.Common.{◌≡◌, List, Bool, map, ap, ◌∙◌, subst}
use Rattle.syn_truth.specs.Truth.{AtEach, value_of}
use Rattle.syn_absorb.specs.Flips.{flip_in, xor, xor_list}
use Rattle.syn_absorb.proofs.Flipped.{flipped_is}
use Rattle.syn_absorb.proofs.luts.flipped_lut.Goals as goal

pub returns : goal.returns
returns c =
    let flip = flip_in c.args.first c.args.marks.now in
    let lut = c.args.lut.now in
    let t1 = c.flip_variables-inside.result in
    let t2 = c.not_if-truth.result in
    let same = c.as_slice-inputs.ensures.value in
    flipped_is flip c.args.signal lut.inputs.items c.copy_inputs.result.items lut.truth t1 t2 lut.vars (c.copy_inputs.ensures ∙ same) c.flip_variables-inside.ensures.vars
    (subst (λ (fs : List Bool). AtEach lut.truth.vars (λ xs. value_of t1 xs ≡ value_of lut.truth (xor_list fs xs))) (c.as_slice.ensures.value ∙ c.flips_of-flips.ensures ∙ ap (map flip) same) c.flip_variables-inside.ensures.values)
    c.not_if-truth.ensures.vars
    (subst (λ b. AtEach t1.vars (λ xs. value_of t2 xs ≡ xor b (value_of t1 xs))) c.is_marked-own.ensures c.not_if-truth.ensures.values)
