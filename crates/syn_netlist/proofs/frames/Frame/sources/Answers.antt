use Rattle.std.proofs.Common.{◌≡◌, ◌∙◌, ap, length}
use Rattle.std.proofs.lemmas.Result.{IfOk-weaker}
use Rattle.syn_netlist.specs.Marks.{source_numbers}
use Rattle.syn_netlist.specs.Numbers.{words_at, all_below}
use Rattle.syn_netlist.proofs.Places.{words_at-sources, sources_below}
use Rattle.syn_netlist.proofs.frames.Frame.sources.Goals as goal

pub returns : goal.returns
returns c =
    let f = c.args.self.now in
    let names = f.names in
    let same : source_numbers c.as_slice-inputs.result.now c.as_slice-clocks.result.now c.as_slice.result.now ≡ source_numbers f.inputs f.clocks f.latches = rw (c.as_slice-inputs.ensures, c.as_slice-clocks.ensures, c.as_slice.ensures) in
    record {
      words = IfOk-weaker c.source_numbers.result _ _ (λ v e. ap (words_at names) (e ∙ same) ∙ words_at-sources names f.model f.inputs f.clocks f.outputs f.latches c.len.ensures.distinct f.inputs_below f.clocks_below) c.source_numbers.ensures;
      below = IfOk-weaker c.source_numbers.result _ _ (λ v e. ap (all_below (length names)) (e ∙ same) ∙ sources_below (length names) f.inputs f.clocks f.latches f.inputs_below f.clocks_below f.latches_below) c.source_numbers.ensures;
    }
