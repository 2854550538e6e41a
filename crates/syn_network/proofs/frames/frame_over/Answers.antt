use Rattle.std.proofs.Common.{ℕ, List, length, ap, ◌∙◌}
use Rattle.syn_netlist.specs.declared.frames.Frame.{Frame}
use Rattle.syn_netlist.specs.Kept.{latches_below, no_nil_control}
use Rattle.syn_netlist.specs.Lists as lists
use Rattle.syn_netlist.specs.Numbers.{words_at, all_below}
use Rattle.syn_netlist.specs.Words.{distinct, is_word}
use Rattle.syn_netlist.proofs.Growing.{length-grows, all_below-more, latches_below-more, words_at-grows}
use Rattle.syn_network.proofs.Framing.{no_nil-grows, same_frame}
use Rattle.syn_network.proofs.frames.frame_over.Goals as goal

pub invariant_of-result : goal.invariant_of-result
invariant_of-result c =
    let f : Frame = c.args.frame.now in
    let more : List (List ℕ) = c.args.names in
    let longer = length-grows f.names more c.requires in
    record {
      model_is_word = ap is_word c.in_ok-copy_word.ensures ∙ f.model_is_word;
      inputs_below = ap (all_below (length more)) c.in_ok-copy_items.ensures ∙ all_below-more (length f.names) (length more) f.inputs longer f.inputs_below;
      clocks_below = ap (all_below (length more)) c.in_ok-copy_items-2.ensures ∙ all_below-more (length f.names) (length more) f.clocks longer f.clocks_below;
      outputs_below = ap (all_below (length more)) c.in_ok-copy_items-3.ensures ∙ all_below-more (length f.names) (length more) f.outputs longer f.outputs_below;
      latches_below = ap (latches_below (length more)) c.in_ok-copy_items-4.ensures ∙ latches_below-more (length f.names) (length more) f.latches longer f.latches_below;
      controls = ap (no_nil_control more) c.in_ok-copy_items-4.ensures ∙ no_nil-grows f.names more f.latches c.requires f.latches_below f.controls;
      clocks_once = ap distinct (ap (words_at more) c.in_ok-copy_items-2.ensures ∙ words_at-grows f.names more f.clocks c.requires f.clocks_below) ∙ f.clocks_once;
      sources_once =
          ap (λ (fr : lists.Frame). distinct (lists.sources fr))
          (same_frame f more c.in_ok-copy_word.field-0 c.in_ok-copy_items.field-0 c.in_ok-copy_items-2.field-0 c.in_ok-copy_items-3.field-0 c.in_ok-copy_items-4.field-0 c.requires c.in_ok-copy_word.ensures c.in_ok-copy_items.ensures c.in_ok-copy_items-2.ensures c.in_ok-copy_items-3.ensures c.in_ok-copy_items-4.ensures)
          ∙ f.sources_once;
    }

pub returns-clause-same : goal.returns-clause-same
returns-clause-same c =
    same_frame c.args.frame.now c.args.names c.in_ok-copy_word.field-0 c.in_ok-copy_items.field-0 c.in_ok-copy_items-2.field-0 c.in_ok-copy_items-3.field-0 c.in_ok-copy_items-4.field-0 c.requires c.in_ok-copy_word.ensures c.in_ok-copy_items.ensures c.in_ok-copy_items-2.ensures c.in_ok-copy_items-3.ensures
    c.in_ok-copy_items-4.ensures
