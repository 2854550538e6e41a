use Rattle.std.proofs.Common.{◌≡◌, ◌≤◌, get_or, ◌*◌, ◌+◌, ◌-◌, min, false, true, rules, refl, sym, ◌∙◌, arith}
use Rattle.syn_models.specs.FlatFaults.{greatest}
use Rattle.syn_models.specs.ReadBack.{is_digit}
use Rattle.syn_models.proofs.ReadingBack.{number_ends, number_all, number_on}
use Rattle.syn_models.proofs.slash_counts.number_in.Goals as goal

pub returns-then-not-is_digit : goal.returns-then-not-is_digit
returns-then-not-is_digit c =
    let no : is_digit (get_or c.args.word.now c.loop-b.b-index 0) ≡ false = sym c.is_digit.ensures ∙ search rules in
    number_ends c.args.word.now c.loop-b.b-index (get_or c.args.word.now c.loop-b.b-index 0) c.loop-b.number (omega arith) refl no c.loop-b.invariant.small c.loop-b.invariant.left

pub loop-b-preserved : goal.loop-b-preserved
loop-b-preserved c =
    let yes : is_digit (get_or c.args.word.now c.loop-b.b-index 0) ≡ true = sym c.is_digit.ensures ∙ search rules in
    let is : c.saturating_add-number.result ≡ min (min (c.loop-b.number * 10) greatest + (get_or c.args.word.now c.loop-b.b-index 0 - 48)) greatest = search rules in
    record {
      small = (let z : c.saturating_add-number.result ≤ greatest = omega arith in z);
      left = number_on c.args.word.now c.loop-b.b-index (get_or c.args.word.now c.loop-b.b-index 0) c.loop-b.number c.saturating_add-number.result (omega arith) refl yes is c.loop-b.invariant.left;
    }

pub returns : goal.returns
returns c = number_all c.args.word.now c.loop-b.b-index c.loop-b.number (omega arith) c.loop-b.invariant.small c.loop-b.invariant.left
