use Rattle.std.proofs.Common.{List, length, refl, sym, ap, ◌∙◌, subst, arith}
use Rattle.std.proofs.lemmas.List.{length-map}
use Rattle.syn_rows.specs.declared.Lit.{Lit}
use Rattle.syn_rows.specs.declared.Row.{Row}
use Rattle.syn_rows.specs.Rows.{InOrder}
use Rattle.syn_hashed.proofs.Orders.{hashed_in_order}
use Rattle.syn_truth.specs.declared.TheConstants.{MAX_VARS}
use Rattle.syn_lutnet.specs.LutData.{IsLutNet}
use Rattle.syn_lutnet.specs.declared.luts.Lut.{Lut}
use Rattle.syn_lutnet.specs.Data.{lut_data, luts_data}
use Rattle.syn_covering.specs.Cuts.{AreLutCuts}
use Rattle.syn_covering.specs.Making.{IsMappedBy}
use Rattle.syn_covering.specs.Mappings.{IsMapping}
use Rattle.syn_covering.specs.Needs.{marked_from}
use Rattle.syn_covering.proofs.LutNets.{out_count}
use Rattle.syn_covering.proofs.Assembled.{marked_gates, mapped, mapped_net, mapped_few}
use Rattle.syn_covering.proofs.nets.make_net.Goals as goal

pub needed-requires-clause-count : goal.needed-requires-clause-count
needed-requires-clause-count g c = c.requires.count ∙ sym (ap (λ (rs : List Row). length rs) c.as_slice-rows.ensures)

pub needed-requires-clause-cuts : goal.needed-requires-clause-cuts
needed-requires-clause-cuts g c = subst (λ (rs : List Row). AreLutCuts MAX_VARS rs (g.C.Choice.leaves c.args.choice.now)) (sym c.as_slice-rows.ensures) c.requires.cuts

pub make_luts-requires-clause-order : goal.make_luts-requires-clause-order
make_luts-requires-clause-order g c =
    let gr = c.args.graph.now in
    subst (λ (rs : List Row). InOrder rs) (sym c.as_slice-rows.ensures) (hashed_in_order gr.source_count gr.rows gr.graph.hashed)

pub make_luts-requires-clause-nodes : goal.make_luts-requires-clause-nodes
make_luts-requires-clause-nodes g c =
    marked_gates (g.C.Choice.leaves c.args.choice.now) c.as_slice-rows.result.now c.as_slice-observed.result.now c.in_ok-marks.marks.items c.in_ok-marks.ensures c.as_slice-2.result.now (c.as_slice-2.ensures.value ∙ c.in_ok-numbering.ensures.nodes ∙ ap (marked_from 0) c.as_slice.ensures.value)

pub invariant_of-result : goal.invariant_of-result
invariant_of-result g c =
    let gr = c.args.graph.now in
    let cut = g.C.Choice.leaves c.args.choice.now in
    let fit : AreLutCuts MAX_VARS gr.rows cut = c.requires.cuts in
    let rows = c.as_slice-rows.result.now in
    let n = c.in_ok-numbering.numbering in
    let luts : List Lut = c.in_ok-luts.luts.items in
    let outs : List Lit = c.in_ok-outs.outs.items in
    let mapping : IsMapping cut gr.source_count gr.rows gr.observed n.nodes.items (luts_data luts) outs =
    mapped gr MAX_VARS cut rows c.as_slice-observed.result.now c.in_ok-marks.marks.items c.as_slice.result.now n.nodes.items c.as_slice-2.result.now n.signals.items c.as_slice-signals.result.now (luts_data luts) outs
    fit c.as_slice-rows.ensures c.as_slice-observed.ensures c.in_ok-marks.ensures c.as_slice.ensures.value c.in_ok-numbering.ensures.nodes c.as_slice-2.ensures.value c.as_slice-signals.ensures.value c.in_ok-numbering.ensures.signals
    c.in_ok-luts.ensures c.in_ok-outs.ensures in
    let made : IsLutNet gr.source_count (luts_data luts) outs = mapped_net MAX_VARS cut gr n.nodes.items (luts_data luts) outs fit mapping in
    let few = mapped_few MAX_VARS cut gr n.nodes.items (luts_data luts) outs fit mapping in
    let count = length-map luts lut_data in
    let same = ap (λ (ls : List Lut). length ls) c.of.ensures in
    let out_same = ap (λ (os : List Lit). length os) c.of-2.ensures in
    record {
      net = subst (λ (ls : List Lut). IsLutNet gr.source_count (luts_data ls) c.of-2.result) (sym c.of.ensures) (subst (λ (os : List Lit). IsLutNet gr.source_count (luts_data luts) os) (sym c.of-2.ensures) made);
      few = omega (arith, few, count, same, gr.few);
      few_observed = omega (arith, out_same, out_count gr.source_count n.nodes.items gr.observed outs mapping.outs_are, gr.few_observed);
    }

pub returns : goal.returns
unfolding IsMappedBy
returns g c =
    let gr = c.args.graph.now in
    let cut = g.C.Choice.leaves c.args.choice.now in
    let fit : AreLutCuts MAX_VARS gr.rows cut = c.requires.cuts in
    let rows = c.as_slice-rows.result.now in
    let n = c.in_ok-numbering.numbering in
    let luts : List Lut = c.in_ok-luts.luts.items in
    let outs : List Lit = c.in_ok-outs.outs.items in
    let mapping : IsMapping cut gr.source_count gr.rows gr.observed n.nodes.items (luts_data luts) outs =
    mapped gr MAX_VARS cut rows c.as_slice-observed.result.now c.in_ok-marks.marks.items c.as_slice.result.now n.nodes.items c.as_slice-2.result.now n.signals.items c.as_slice-signals.result.now (luts_data luts) outs
    fit c.as_slice-rows.ensures c.as_slice-observed.ensures c.in_ok-marks.ensures c.as_slice.ensures.value c.in_ok-numbering.ensures.nodes c.as_slice-2.ensures.value c.as_slice-signals.ensures.value c.in_ok-numbering.ensures.signals
    c.in_ok-luts.ensures c.in_ok-outs.ensures in (
      refl,
      (
        n.nodes.items,
        subst (λ (ls : List Lut). IsMapping cut gr.source_count gr.rows gr.observed n.nodes.items (luts_data ls) c.of-2.result) (sym c.of.ensures)
            (subst (λ (os : List Lit). IsMapping cut gr.source_count gr.rows gr.observed n.nodes.items (luts_data luts) os) (sym c.of-2.ensures) mapping),
      ),
    )
