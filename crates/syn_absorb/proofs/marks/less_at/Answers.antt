use Rattle.std.proofs.Common.{◌≡◌, length, nat_lt, ap, ◌∙◌, arith, rules}
use Rattle.std.proofs.lemmas.List.{length_push}
use Rattle.syn_hashed.specs.Pairs.{number_at}
use Rattle.syn_absorb.proofs.Observing.{marked_all, marked_next}
use Rattle.syn_absorb.proofs.marks.less_at.Goals as goal

pub loop-i-preserved : goal.loop-i-preserved
loop-i-preserved c =
    let inv = c.loop-i.invariant in
    let pushed = c.in_ok-push.ensures.items in
    record {
      count = omega (arith, inv.count, ap (λ xs. length xs) pushed ∙ length_push c.loop-i.less.items _);
      each = marked_next c.loop-i.less.items _ _ (λ n. nat_lt (number_at c.args.numbers.now n) (number_at c.args.others.now n)) c.loop-i.i pushed inv.count (search rules) inv.each;
    }

pub returns : goal.returns
returns c =
    let all : length c.args.numbers.now ≡ c.loop-i.i = omega arith in
    marked_all c.loop-i.less.items c.args.numbers.now c.args.others.now c.loop-i.i c.loop-i.invariant.count all c.requires c.loop-i.invariant.each
