use Rattle.std.proofs.Common.{◌+◌, subst, sym, arith}
use Rattle.std.proofs.lemmas.List.{length-map}
use Rattle.std.proofs.lemmas.Result.{IfOk-weaker}
use Rattle.syn_lutnet.specs.Data.{lut_data, luts_data}
use Rattle.syn_absorb.specs.Reaching.{IsSwept}
use Rattle.syn_absorb.specs.Rebuilding.{IsRebuiltNet}
use Rattle.syn_absorb.proofs.Trimmed.{rebuilt_more}
use Rattle.syn_absorb.proofs.trimming.trimmed_parts.Goals as goal

pub rebuilt-requires-clause-marks : goal.rebuilt-requires-clause-marks
rebuilt-requires-clause-marks c = subst (λ bs. IsSwept (c.args.source_count + 1) (luts_data c.args.luts.now) c.args.lits.now bs 0) (sym c.as_slice.ensures.value) c.in_ok-marks.ensures

pub pruned-requires-clause-few : goal.pruned-requires-clause-few
pruned-requires-clause-few c =
    let made = c.in_ok-parts.parts in
    omega (arith, c.requires.few, c.in_ok-parts.ensures.rebuilt.trimming.fewer, length-map c.args.luts.now lut_data, length-map made.luts.items lut_data)

pub pruned-requires-clause-net : goal.pruned-requires-clause-net
pruned-requires-clause-net c = c.in_ok-parts.ensures.rebuilt.net

pub pruned-requires-clause-depend : goal.pruned-requires-clause-depend
pruned-requires-clause-depend c = c.in_ok-parts.ensures.rebuilt.depend

pub returns-clause-rebuilt : goal.returns-clause-rebuilt
returns-clause-rebuilt c =
    let count = c.args.source_count in
    let luts = c.args.luts.now in
    let lits = c.args.lits.now in
    let made = c.in_ok-parts.parts in
    IfOk-weaker c.pruned.result (λ p. IsRebuiltNet count (luts_data made.luts.items) made.lits.items (luts_data p.luts.items) p.lits.items)
    (λ p. IsRebuiltNet count (luts_data luts) lits (luts_data p.luts.items) p.lits.items)
    (λ p again. rebuilt_more count (luts_data luts) (luts_data made.luts.items) (luts_data p.luts.items) lits made.lits.items p.lits.items c.in_ok-parts.ensures.rebuilt.trimming again) c.pruned.ensures.rebuilt
