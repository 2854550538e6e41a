use Rattle.std.proofs.Common.{◌≡◌, get_or, ◌-◌, ◌+◌, ◌<◌, ap, ◌∙◌, sym, length, arith}
use Rattle.std.proofs.lemmas.List.{get_or-map, length-map}
use Rattle.syn_lutnet.specs.LutData as spelled
use Rattle.syn_lutnet.specs.Data.{lut_data, luts_data}
use Rattle.syn_absorb.proofs.Marking.{inputs_fit, swept_next}
use Rattle.syn_absorb.proofs.reach.sweep.Goals as goal

pub loop-j-preserved : goal.loop-j-preserved
loop-j-preserved c =
    let luts = c.args.luts.now in
    let j = c.loop-j.j - 1 in
    let there : j < length luts = omega (arith, c.loop-j-test.true) in
    let at : lut_data (get_or luts j c.index-luts-j.result) ≡ spelled.lut_at (luts_data luts) j = sym (get_or-map lut_data luts j c.index-luts-j.result spelled.no_lut there) in
    swept_next c.args.source_count (luts_data luts) c.args.observed.now c.loop-j.marks c.mark_inputs.new.marks j c.loop-j.j (c.args.source_count + 1 + j) c.as_slice.result.now
    c.requires.net (omega (arith, there, length-map luts lut_data)) (omega (arith, c.loop-j-test.true)) (omega arith) (c.as_slice.ensures.value ∙ ap (λ (l : spelled.Lut). l.inputs) at)
    c.loop-j.invariant c.mark_inputs.auto.marks c.mark_inputs.ensures

pub mark_inputs-requires-clause-inputs : goal.mark_inputs-requires-clause-inputs
mark_inputs-requires-clause-inputs c =
    let luts = c.args.luts.now in
    let j = c.loop-j.j - 1 in
    let there : j < length luts = omega (arith, c.loop-j-test.true) in
    let within : j < length (luts_data luts) = omega (arith, there, length-map luts lut_data) in
    let at : lut_data (get_or luts j c.index-luts-j.result) ≡ spelled.lut_at (luts_data luts) j = sym (get_or-map lut_data luts j c.index-luts-j.result spelled.no_lut there) in
    inputs_fit c.args.source_count (luts_data luts) c.args.observed.now c.requires.net j within c.as_slice.result.now (c.as_slice.ensures.value ∙ ap (λ (l : spelled.Lut). l.inputs) at) (length c.loop-j.marks)
    (omega (arith, within, c.loop-j.invariant.count))
