use Rattle.std.proofs.Common.{◌≡◌, get_or, false, true, rules, refl, sym, ◌∙◌, arith}
use Rattle.syn_models.specs.ReadBack.{is_digit}
use Rattle.syn_models.proofs.ReadingBack.{behind_here, behind_on}
use Rattle.syn_models.proofs.slash_counts.behind_digits.Goals as goal

pub returns-then-not-is_digit : goal.returns-then-not-is_digit
returns-then-not-is_digit c =
    let no : is_digit (get_or c.args.word.now c.loop-i.i 0) ≡ false = sym c.is_digit.ensures ∙ search rules in
    c.split_at.ensures.back ∙ sym (behind_here c.args.word.now c.loop-i.i (get_or c.args.word.now c.loop-i.i 0) (omega arith) refl no) ∙ c.loop-i.invariant

pub loop-i-preserved : goal.loop-i-preserved
loop-i-preserved c =
    let yes : is_digit (get_or c.args.word.now c.loop-i.i 0) ≡ true = sym c.is_digit.ensures ∙ search rules in
    sym (behind_on c.args.word.now c.loop-i.i (get_or c.args.word.now c.loop-i.i 0) (omega arith) refl yes) ∙ c.loop-i.invariant
