use Rattle.std.proofs.Common.{false}
use Rattle.std.proofs.lemmas.Result.{IfOk-weaker}
use Rattle.syn_lutnet.specs.Data.{lut_data, luts_data}
use Rattle.syn_absorb.specs.Rebuilding.{IsNext, IsPlaced}
use Rattle.syn_absorb.proofs.Literals.{made_lit, next_unwanted, next_wanted, resolved_low}
use Rattle.syn_absorb.proofs.rebuild.next_literal.Goals as goal

pub returns-then-not-wanted : goal.returns-then-not-wanted
returns-then-not-wanted c = next_unwanted c.args.first c.args.wanted c.args.lits.now (lut_data c.args.lut.now) (luts_data c.args.luts.now.items) c.of.result c.if-not-wanted.true (made_lit c.of.result 0 false c.of.ensures)

pub placed-requires-clause-needed : goal.placed-requires-clause-needed
placed-requires-clause-needed c = c.resolved.ensures.needed

pub placed-requires-clause-low : goal.placed-requires-clause-low
placed-requires-clause-low c = resolved_low c.args.lits.now (lut_data c.args.lut.now) (lut_data c.resolved.result) c.requires.low c.resolved.ensures

pub returns : goal.returns
returns c =
    let new = luts_data c.placed.new.luts.items in
    let old = luts_data c.args.luts.now.items in
    let was = lut_data c.args.lut.now in
    let now = lut_data c.resolved.result in
    IfOk-weaker c.placed.result (IsPlaced c.args.first now old new) (IsNext c.args.first c.args.wanted c.args.lits.now was old new)
    (λ lit placed. next_wanted c.args.first c.args.wanted c.args.lits.now was now old new lit c.if-not-wanted.false c.resolved.ensures placed) c.placed.ensures
