use Rattle.std.proofs.Common.{◌≤◌, ◌+◌, false, length, arith}
use Rattle.syn_lutnet.specs.Data.{lut_data, luts_data}
use Rattle.syn_absorb.proofs.Literals.{made_lit, placed_added, placed_copy}
use Rattle.syn_absorb.proofs.rebuild.placed.Goals as goal

pub returns-then-len-lt2 : goal.returns-then-len-lt2
returns-then-len-lt2 c = placed_copy c.args.first (lut_data c.args.lut) (luts_data c.args.luts.now.items) c.copied-lit.result c.copied-lit.ensures

pub returns : goal.returns
returns c =
    let many : 2 ≤ length c.args.lut.inputs.items = omega arith in
    placed_added c.args.first c.args.lut c.args.luts.now.items c.push.new.self.items c.of-lit.result many c.in_ok-push.ensures.items (made_lit c.of-lit.result (c.args.first + length c.args.luts.now.items) false (omega arith))
