use Rattle.std.proofs.Common.{◌≡◌, ◌%◌, ◌^◌, ap, sym, ◌∙◌, false, arith}
use Rattle.std.specs.Prelude.{if◌then◌else◌}
use Rattle.syn_npn.specs.Images.{read_at, value_at}
use Rattle.syn_npn.specs.Permutations.{permutation_at}
use Rattle.syn_npn.specs.Values.{image_by}
use Rattle.syn_npn.specs.Walk.{toggle}
use Rattle.syn_npn.proofs.Imaging.{image_by-lt, value_at-image_by}
use Rattle.syn_npn.proofs.Numbers.{same_from_values}
use Rattle.syn_npn.proofs.Steps.{read_at-flip, read_at-none, flipped-lt}
use Rattle.syn_npn.proofs.walk.flipped.Goals as goal

pub loop-variable-init : goal.loop-variable-init
loop-variable-init c =
    let none : c.args.flips % 2 ^ 0 ≡ 0 = omega arith in
    record { small = omega arith; values = λ m h. ap (value_at c.args.function) (sym (ap (λ k. read_at (permutation_at 0) k m) none ∙ read_at-none m h)) }

pub loop-variable-preserved : goal.loop-variable-preserved
loop-variable-preserved c =
    let i = c.loop-variable.variable in
    let flips = c.args.flips in
    record {
      small = omega arith;
      values = λ m h. c.flipped_where-table.ensures m h
          ∙ ap (λ b. value_at c.loop-variable.table (if b then toggle i m else m)) c.value.ensures
          ∙ c.loop-variable.invariant.values (if value_at flips i then toggle i m else m) (flipped-lt (value_at flips i) i m h)
          ∙ ap (value_at c.args.function) (sym (read_at-flip i flips m (omega arith) c.requires h));
    }

pub returns : goal.returns
returns c =
    let f = c.args.function in
    let flips = c.args.flips in
    let i = c.loop-variable.variable in
    let all : i ≡ 4 = omega arith in
    let whole : flips % 2 ^ 4 ≡ flips = omega arith in
    same_from_values c.loop-variable.table (image_by (permutation_at 0) flips false f) (omega arith) (image_by-lt (permutation_at 0) flips false f)
    (λ m h.
    c.loop-variable.invariant.values m h
    ∙ ap (λ k. value_at f (read_at (permutation_at 0) k m)) (ap (λ k. flips % 2 ^ k) all ∙ whole)
    ∙ sym (value_at-image_by (permutation_at 0) flips false f m h))
