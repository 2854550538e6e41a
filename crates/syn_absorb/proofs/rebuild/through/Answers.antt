use Rattle.std.proofs.Common.{◌≡◌, ◌∙◌, ℕ, Bool, List, map, ap, subst}
use Rattle.syn_hashed.specs.Hashed.{lit_at}
use Rattle.syn_rows.specs.Rows.{node_of}
use Rattle.syn_truth.specs.Truth.{AtEach, value_of}
use Rattle.syn_absorb.specs.Flips.{xor_list}
use Rattle.syn_absorb.specs.Rebuilding.{is_complement}
use Rattle.syn_absorb.proofs.Literals.{through_is}
use Rattle.syn_absorb.proofs.rebuild.through.Goals as goal

pub returns : goal.returns
returns c =
    let lut = c.args.lut.now in
    let lits = c.args.lits.now in
    let same = c.as_slice-inputs.ensures.value in
    let truth = c.flip_variables-truth.result in
    let sign = λ (m : ℕ). is_complement (lit_at lits m) in
    through_is lits lut c.nodes_of.result.items truth c.flip_variables-truth.ensures.vars (c.nodes_of.ensures ∙ ap (map (λ m. node_of (lit_at lits m))) same)
    (subst (λ (bs : List Bool). AtEach lut.truth.vars (λ xs. value_of truth xs ≡ value_of lut.truth (xor_list bs xs))) (c.as_slice.ensures.value ∙ c.signs_of-signs.ensures ∙ ap (map sign) same) c.flip_variables-truth.ensures.values)
