use Rattle.std.proofs.Common.{◌≡◌, ◌∙◌, ap, sym, arith, get_or}
use Rattle.syn_npn.specs.Images.{number_of, value_at}
use Rattle.syn_npn.proofs.Numbers.{grown, grown-lt}
use Rattle.syn_npn.proofs.Undoing.{moved-is}
use Rattle.syn_npn.proofs.Transform.moved_flips.Goals as goal

pub overflow_add-flips : goal.overflow_add-flips
overflow_add-flips c =
    omega (arith, grown-lt 8 c.loop-i.i c.loop-i.flips (λ j. value_at c.args.self.flips (get_or c.args.back j 0)) c.value.result (omega arith) c.loop-i.invariant c.value.ensures)

pub loop-i-preserved : goal.loop-i-preserved
loop-i-preserved c =
    grown 8 c.loop-i.i c.loop-i.flips (λ j. value_at c.args.self.flips (get_or c.args.back j 0)) c.value.result (omega arith) c.loop-i.invariant c.value.ensures

pub returns : goal.returns
returns c =
    let all : c.loop-i.i ≡ 4 = omega arith in
    c.loop-i.invariant ∙ ap (λ k. number_of k (λ j. value_at c.args.self.flips (get_or c.args.back j 0))) all ∙ sym (moved-is c.args.back c.args.self.flips)
