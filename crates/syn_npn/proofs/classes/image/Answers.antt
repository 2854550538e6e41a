use Rattle.std.proofs.Common.{◌≡◌, ◌∙◌, ap, sym, arith}
use Rattle.syn_npn.specs.Images.{differ, number_of, value_at}
use Rattle.syn_npn.specs.Values.{image_value}
use Rattle.syn_npn.proofs.Numbers.{differs, grown, grown-lt}
use Rattle.syn_npn.proofs.Imaging.{image_by-is, read_at-lt, value_at-image_by}
use Rattle.syn_npn.proofs.classes.image.Goals as goal

pub value-requires : goal.value-requires
value-requires c =
    let t = c.args.transform in
    omega (arith, c.read_at.ensures, read_at-lt t.perm t.flips c.loop-minterm.minterm)

pub overflow_add-image : goal.overflow_add-image
overflow_add-image c =
    let t = c.args.transform in
    omega (
      arith,
      grown-lt 16 c.loop-minterm.minterm c.loop-minterm.image (image_value t.perm t.flips t.neg c.args.function) _ (omega arith) c.loop-minterm.invariant
          (differs t.neg c.value.result ∙ ap (differ t.neg) (c.value.ensures ∙ ap (value_at c.args.function) c.read_at.ensures)),
    )

pub loop-minterm-preserved : goal.loop-minterm-preserved
loop-minterm-preserved c =
    let t = c.args.transform in
    grown 16 c.loop-minterm.minterm c.loop-minterm.image (image_value t.perm t.flips t.neg c.args.function) _ (omega arith) c.loop-minterm.invariant
    (differs t.neg c.value.result ∙ ap (differ t.neg) (c.value.ensures ∙ ap (value_at c.args.function) c.read_at.ensures))

pub returns-clause-image : goal.returns-clause-image
returns-clause-image c =
    let t = c.args.transform in
    let all : c.loop-minterm.minterm ≡ 16 = omega arith in
    c.loop-minterm.invariant ∙ ap (λ k. number_of k (image_value t.perm t.flips t.neg c.args.function)) all ∙ sym (image_by-is t.perm t.flips t.neg c.args.function)

pub returns-clause-values : goal.returns-clause-values
returns-clause-values c = λ m h.
    let t = c.args.transform in
    ap (λ g. value_at g m) (returns-clause-image c) ∙ value_at-image_by t.perm t.flips t.neg c.args.function m h
