use Rattle.std.proofs.Common.{ℕ, List, get_or, ap, ◌∙◌, arith}
use Rattle.syn_absorb.proofs.Literals.{copy_is, first_low, made_lit}
use Rattle.syn_absorb.proofs.rebuild.copied.Goals as goal

pub of-requires : goal.of-requires
of-requires c = omega (arith, c.first_signal-node.ensures, ap (λ (ns : List ℕ). get_or ns 0 0) c.as_slice.ensures.value, first_low c.args.lut.now.inputs.items c.requires.low)

pub returns : goal.returns
returns c =
    let node = c.first_signal-node.result in
    copy_is c.args.lut.now c.is_one.result c.is_one.ensures node c.of.result (c.first_signal-node.ensures ∙ ap (λ (ns : List ℕ). get_or ns 0 0) c.as_slice.ensures.value)
    (made_lit c.of.result node c.is_one.result c.of.ensures) c.requires.few c.requires.needed
