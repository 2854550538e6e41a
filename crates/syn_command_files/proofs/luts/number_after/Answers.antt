use Rattle.std.proofs.Common.{◌≡◌, ◌≤◌, ◌∙◌, List, ℕ, min, ap, sym, drop, arith}
use Rattle.std.proofs.lemmas.List.{drop_all}
use Rattle.syn_words.specs.Numbers.{number_after}
use Rattle.syn_command_files.specs.Luts.{most_area}
use Rattle.syn_command_files.proofs.Decimals.{digit_more}
use Rattle.syn_command_files.proofs.luts.number_after.Goals as goal

pub loop-digit-preserved : goal.loop-digit-preserved
loop-digit-preserved c = record {
  left =
      digit_more c.loop-digit.after c.with_digit-after.result c.loop-digit.digit-index c.args.digits.now c.loop-digit-test.true c.with_digit-after.ensures
      ∙ c.loop-digit.invariant.left;
  few = omega (arith, c.with_digit-after.ensures);
}

pub returns : goal.returns
returns c =
    let own : c.loop-digit.after ≡ min most_area c.loop-digit.after = omega (arith, c.loop-digit.invariant.few) in
    let done = drop_all c.loop-digit.digit-index c.args.digits.now (omega (arith, c.loop-digit-test.false)) in
    own ∙ ap (λ (ds : List ℕ). min most_area (number_after c.loop-digit.after ds)) (sym done) ∙ c.loop-digit.invariant.left
