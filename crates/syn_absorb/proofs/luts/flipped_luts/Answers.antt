use Rattle.std.proofs.Common.{◌≡◌, ◌+◌, List, length, sym, ap, ◌∙◌, subst, arith}
use Rattle.std.proofs.lemmas.List.{length-map, length_push, get_or-map}
use Rattle.syn_lutnet.specs.LutData as spelled
use Rattle.syn_lutnet.specs.declared.luts.Lut.{Lut}
use Rattle.syn_lutnet.specs.Data.{lut_data, luts_data}
use Rattle.syn_absorb.specs.Flips.{IsFlipped, flip_in}
use Rattle.syn_absorb.proofs.Flipped.{luts_pushed}
use Rattle.syn_absorb.proofs.luts.flipped_luts.Goals as goal

pub loop-lut-preserved : goal.loop-lut-preserved
loop-lut-preserved c =
    let done : List Lut = c.loop-lut.flipped.items in
    let inv = c.loop-lut.invariant in
    let pushed = c.in_ok-push.ensures.items in
    let flip = flip_in c.args.first c.args.marks.now in
    let next = c.flipped_lut-next.result in
    let old = c.lut-item.result in
    let long = ap (λ (ls : List Lut). length ls) pushed ∙ length_push done next in
    let at : lut_data old ≡ spelled.lut_at (luts_data c.args.luts.now) c.loop-lut.lut-index = ap lut_data c.lut-item.is ∙ sym (get_or-map lut_data c.args.luts.now c.loop-lut.lut-index old spelled.no_lut c.loop-lut-test.true) in
    let here : IsFlipped flip (c.args.first + c.loop-lut.lut-index) (spelled.lut_at (luts_data c.args.luts.now) c.loop-lut.lut-index) (lut_data next) =
    subst (λ n. IsFlipped flip n (spelled.lut_at (luts_data c.args.luts.now) c.loop-lut.lut-index) (lut_data next)) inv.place
    (subst (λ (l : spelled.Lut). IsFlipped flip c.loop-lut.signal l (lut_data next)) at c.flipped_lut-next.ensures) in
    record {
      long = omega (arith, long, inv.long);
      place = omega (arith, inv.place);
      each = luts_pushed (λ j x. IsFlipped flip (c.args.first + j) (spelled.lut_at (luts_data c.args.luts.now) j) x) done c.push.new.self.items next c.loop-lut.lut-index pushed inv.long inv.each here;
    }

pub returns : goal.returns
returns c =
    let all : length c.args.luts.now ≡ c.loop-lut.lut-index = omega arith in
    record {
      long = length-map c.loop-lut.flipped.items lut_data ∙ c.loop-lut.invariant.long ∙ sym all ∙ sym (length-map c.args.luts.now lut_data);
      each = λ j lt. c.loop-lut.invariant.each j (omega (arith, lt, all, length-map c.args.luts.now lut_data));
    }
