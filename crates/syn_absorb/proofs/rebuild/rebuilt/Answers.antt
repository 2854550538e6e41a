use Rattle.std.proofs.Common.{◌≡◌, ◌+◌, ◌<◌, ◌∙◌, List, map, length, sym, ap, subst, arith}
use Rattle.std.proofs.lemmas.List.{length-map}
use Rattle.syn_rows.specs.declared.Lit.{Lit}
use Rattle.syn_rows.specs.Values.{value_in}
use Rattle.syn_lutnet.specs.declared.luts.Lut as code
use Rattle.syn_lutnet.specs.Data.{lut_data, luts_data}
use Rattle.syn_absorb.specs.Rebuilding.{IsRebuilt, read_lit}
use Rattle.syn_absorb.proofs.Steps.{rebuilt_start}
use Rattle.syn_absorb.proofs.Trimmed.{fewer_luts, lits_low, net_rebuilt}
use Rattle.syn_absorb.proofs.rebuild.rebuilt.Goals as goal

pub rebuild-requires-clause-fit : goal.rebuild-requires-clause-fit
rebuild-requires-clause-fit c j lt = c.requires.net.luts_fit j (omega (arith, lt, length-map c.args.luts.now lut_data))

pub rebuild-requires-clause-marks : goal.rebuild-requires-clause-marks
rebuild-requires-clause-marks c = omega (arith, c.requires.marks.count, length-map c.args.luts.now lut_data)

pub rebuild-requires-clause-closed : goal.rebuild-requires-clause-closed
rebuild-requires-clause-closed c j lt on = c.requires.marks.done j (omega arith) lt on

pub rebuild-requires-clause-begun : goal.rebuild-requires-clause-begun
rebuild-requires-clause-begun c =
    subst (λ (ls : List code.Lut). IsRebuilt c.args.source_count (luts_data c.args.luts.now) (value_in c.args.marks.now) c.in_ok-lits.lits.items (luts_data ls)) (sym c.new-new.ensures.items)
    (rebuilt_start c.args.source_count (luts_data c.args.luts.now) (value_in c.args.marks.now) c.in_ok-lits.lits.items c.in_ok-lits.ensures.long c.in_ok-lits.ensures.own)

pub read_literals-requires : goal.read_literals-requires
read_literals-requires c =
    lits_low c.args.source_count (luts_data c.args.luts.now) (luts_data c.rebuild.new.new.items) (value_in c.args.marks.now) c.rebuild.new.lits.items c.as_slice.result.now c.as_slice.ensures.value c.in_ok-rebuild.ensures.rebuilt
    (omega (arith, c.in_ok-rebuild.ensures.long, c.requires.few))

pub returns-clause-rebuilt : goal.returns-clause-rebuilt
returns-clause-rebuilt c =
    let count = c.args.source_count in
    let luts = luts_data c.args.luts.now in
    let long : length c.rebuild.new.lits.items ≡ count + 1 + length luts = omega (arith, c.in_ok-rebuild.ensures.long, length-map c.args.luts.now lut_data) in
    net_rebuilt count luts (luts_data c.rebuild.new.new.items) (value_in c.args.marks.now) c.rebuild.new.lits.items c.args.observed.now c.in_ok-outs.outs.items c.requires.net c.requires.marks.seen c.in_ok-rebuild.ensures.rebuilt long
    (c.in_ok-outs.ensures ∙ ap (λ (ls : List Lit). map (read_lit ls) c.args.observed.now) c.as_slice.ensures.value)

pub returns-clause-fewer : goal.returns-clause-fewer
returns-clause-fewer c n le lt off =
    let count = c.args.source_count in
    let luts = luts_data c.args.luts.now in
    let new = luts_data c.rebuild.new.new.items in
    let long : length c.rebuild.new.lits.items ≡ count + 1 + length luts = omega (arith, c.in_ok-rebuild.ensures.long, length-map c.args.luts.now lut_data) in
    let fewer : length new < length luts = fewer_luts count luts new (value_in c.args.marks.now) c.rebuild.new.lits.items c.in_ok-rebuild.ensures.rebuilt long n le (omega (arith, lt, c.requires.marks.count)) off in
    omega (arith, fewer, length-map c.args.luts.now lut_data, length-map c.rebuild.new.new.items lut_data)
