use Rattle.std.proofs.Common.{◌≡◌, ◌∙◌, ap, length}
use Rattle.std.proofs.lemmas.Result.{IfOk-weaker}
use Rattle.syn_netlist.specs.Marks.{observed_numbers}
use Rattle.syn_netlist.specs.Numbers.{words_at, all_below}
use Rattle.syn_netlist.proofs.Places.{words_at-observed, observed_below}
use Rattle.syn_netlist.proofs.frames.Frame.observed.Goals as goal

pub returns : goal.returns
returns c =
    let f = c.args.self.now in
    let names = f.names in
    let same : observed_numbers c.as_slice-outputs.result.now c.as_slice.result.now ≡ observed_numbers f.outputs f.latches = rw (c.as_slice-outputs.ensures, c.as_slice.ensures) in
    record {
      words = IfOk-weaker c.observed_numbers.result _ _ (λ v e. ap (words_at names) (e ∙ same) ∙ words_at-observed names f.model f.inputs f.clocks f.outputs f.latches c.len.ensures.distinct f.outputs_below f.latches_below) c.observed_numbers.ensures;
      below = IfOk-weaker c.observed_numbers.result _ _ (λ v e. ap (all_below (length names)) (e ∙ same) ∙ observed_below (length names) f.outputs f.latches f.outputs_below f.latches_below) c.observed_numbers.ensures;
    }
