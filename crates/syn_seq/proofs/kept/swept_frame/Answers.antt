use Rattle.std.proofs.Common.{ℕ, List, length, ap, ap₂, ◌∙◌}
use Rattle.syn_netlist.specs.declared.frames.Frame.{Frame}
use Rattle.syn_netlist.specs.declared.Latch.{Latch}
use Rattle.syn_netlist.specs.Frames.{frame_in}
use Rattle.syn_netlist.specs.Kept.{latch_numbers, latches_below, no_nil_control}
use Rattle.syn_netlist.specs.Lists as lists
use Rattle.syn_netlist.specs.Numbers.{all_below, words_at}
use Rattle.syn_netlist.specs.Words.{distinct, is_word}
use Rattle.syn_seq.specs.Code.{kept_latches}
use Rattle.syn_seq.proofs.KeptLatches.{all_kept_latches, kept_sources_once, same_swept}
use Rattle.syn_seq.proofs.kept.swept_frame.Goals as goal

pub invariant_of-result : goal.invariant_of-result
invariant_of-result c =
    let f : Frame = c.args.frame.now in
    let fates = c.args.fates.now in
    let en = c.in_ok-names.ensures in
    let em = c.of.ensures ∙ c.in_ok-model.ensures.items ∙ c.as_slice-2.ensures in
    let ei = c.of-2.ensures ∙ c.in_ok-inputs.ensures.items ∙ c.as_slice-3.ensures in
    let ec = c.of-3.ensures ∙ c.in_ok-clocks.ensures.items ∙ c.as_slice-4.ensures in
    let eo = c.of-4.ensures ∙ c.in_ok-outputs.ensures.items ∙ c.as_slice-5.ensures in
    let el = c.of-5.ensures ∙ c.in_ok-latches.ensures ∙ ap (kept_latches fates) c.as_slice.ensures in
    record {
      model_is_word = ap is_word em ∙ f.model_is_word;
      inputs_below = ap₂ (λ (ns : List (List ℕ)) (x : List ℕ). all_below (length ns) x) en ei ∙ f.inputs_below;
      clocks_below = ap₂ (λ (ns : List (List ℕ)) (x : List ℕ). all_below (length ns) x) en ec ∙ f.clocks_below;
      outputs_below = ap₂ (λ (ns : List (List ℕ)) (x : List ℕ). all_below (length ns) x) en eo ∙ f.outputs_below;
      latches_below = ap₂ (λ (ns : List (List ℕ)) (x : List Latch). latches_below (length ns) x) en el ∙ all_kept_latches (λ latch. all_below (length f.names) (latch_numbers latch)) fates f.latches f.latches_below;
      controls = ap₂ (λ (ns : List (List ℕ)) (x : List Latch). no_nil_control ns x) en el ∙ all_kept_latches _ fates f.latches f.controls;
      clocks_once = ap₂ (λ (ns : List (List ℕ)) (x : List ℕ). distinct (words_at ns x)) en ec ∙ f.clocks_once;
      sources_once =
          ap (λ (fr : lists.Frame). distinct (lists.sources fr)) (same_swept f fates _ _ _ _ _ _ en em ei ec eo el)
          ∙ kept_sources_once (frame_in f) fates f.sources_once;
    }

pub returns-clause-same : goal.returns-clause-same
returns-clause-same c =
    same_swept c.args.frame.now c.args.fates.now _ _ _ _ _ _ c.in_ok-names.ensures
    (c.of.ensures ∙ c.in_ok-model.ensures.items ∙ c.as_slice-2.ensures)
    (c.of-2.ensures ∙ c.in_ok-inputs.ensures.items ∙ c.as_slice-3.ensures)
    (c.of-3.ensures ∙ c.in_ok-clocks.ensures.items ∙ c.as_slice-4.ensures)
    (c.of-4.ensures ∙ c.in_ok-outputs.ensures.items ∙ c.as_slice-5.ensures)
    (c.of-5.ensures ∙ c.in_ok-latches.ensures ∙ ap (kept_latches c.args.fates.now) c.as_slice.ensures)
