use Rattle.std.proofs.Common.{◌+◌, List, length, ap, subst, sym, arith}
use Rattle.syn_lutnet.specs.Data.{luts_data}
use Rattle.syn_lutnet.specs.declared.luts.Lut.{Lut}
use Rattle.syn_absorb.specs.Reaching.{IsSwept}
use Rattle.syn_absorb.proofs.Trimmed.{open_seen, rebuilt_seen, reached_seen}
use Rattle.syn_absorb.proofs.trimming.without_unreached.Goals as goal

pub reached-requires-clause-few : goal.reached-requires-clause-few
reached-requires-clause-few c = omega (arith, c.requires.few, ap (λ (ls : List Lut). length ls) c.as_slice-luts.ensures.value)

pub reached-requires-clause-net : goal.reached-requires-clause-net
reached-requires-clause-net c = open_seen c.args.source_count c.args.parts.now.luts.items c.as_slice-luts.result.now c.args.parts.now.lits.items c.as_slice-lits.result.now c.as_slice-luts.ensures.value c.as_slice-lits.ensures.value c.requires.net

pub rebuilt-requires-clause-few : goal.rebuilt-requires-clause-few
rebuilt-requires-clause-few c = omega (arith, c.requires.few, ap (λ (ls : List Lut). length ls) c.as_slice-luts.ensures.value)

pub rebuilt-requires-clause-net : goal.rebuilt-requires-clause-net
rebuilt-requires-clause-net c = open_seen c.args.source_count c.args.parts.now.luts.items c.as_slice-luts.result.now c.args.parts.now.lits.items c.as_slice-lits.result.now c.as_slice-luts.ensures.value c.as_slice-lits.ensures.value c.requires.net

pub rebuilt-requires-clause-marks : goal.rebuilt-requires-clause-marks
rebuilt-requires-clause-marks c = subst (λ bs. IsSwept (c.args.source_count + 1) (luts_data c.as_slice-luts.result.now) c.as_slice-lits.result.now bs 0) (sym c.as_slice-slice.ensures.value) c.in_ok-marks.ensures

pub returns-then-all_marked-clause-net : goal.returns-then-all_marked-clause-net
returns-then-all_marked-clause-net c =
    reached_seen c.args.source_count c.args.parts.now.luts.items c.as_slice-luts.result.now c.args.parts.now.lits.items c.as_slice-lits.result.now c.as_slice-luts.ensures.value c.as_slice-lits.ensures.value c.in_ok-marks.marks.items c.as_slice-slice.result.now
    c.as_slice-slice.ensures.value c.requires.net c.in_ok-marks.ensures (c.all_marked.ensures.all c.if-all_marked.true)

pub returns-clause-rebuilt : goal.returns-clause-rebuilt
returns-clause-rebuilt c =
    rebuilt_seen c.args.source_count c.args.parts.now.luts.items c.as_slice-luts.result.now c.args.parts.now.lits.items c.as_slice-lits.result.now c.as_slice-luts.ensures.value c.as_slice-lits.ensures.value (luts_data c.in_ok-made.made.luts.items) c.in_ok-made.made.lits.items
    c.in_ok-made.ensures.rebuilt

pub returns-clause-fewer : goal.returns-clause-fewer
returns-clause-fewer c =
    let some = c.all_marked.ensures.some c.if-all_marked.false in
    omega (arith, c.in_ok-made.ensures.fewer some.0 some.1 some.2 some.3, ap (λ (ls : List Lut). length ls) c.as_slice-luts.ensures.value)
