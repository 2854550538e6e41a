use Rattle.std.proofs.Common.{◌≡◌, flat_map, length, map, ap, ◌∙◌}
use Rattle.syn_netlist.specs.Kept.{frame_of, latch_in, latches_below, no_nil_control}
use Rattle.syn_netlist.specs.Lists as lists
use Rattle.syn_netlist.specs.Words.{distinct, is_word}
use Rattle.syn_models.specs.Answers.{frame_with}
use Rattle.syn_models.specs.declared.ports.Role.TheVariants.{Input, Clock, Output}
use Rattle.syn_models.specs.Listed.{listed_in}
use Rattle.syn_models.proofs.Assembling.{listed_low, listed_words, frame_is}
use Rattle.syn_models.proofs.flat.flat_frame.Goals as goal

pub invariant_of-result-clause-model_is_word : goal.invariant_of-result-clause-model_is_word
invariant_of-result-clause-model_is_word c = ap is_word (c.in_ok-model.ensures ∙ c.as_slice.ensures) ∙ c.args.main.now.name_is_word

pub invariant_of-result-clause-inputs_below : goal.invariant_of-result-clause-inputs_below
invariant_of-result-clause-inputs_below c = listed_low c.args.names c.args.main.now Input c.of.result c.requires.grows (c.of.ensures ∙ c.in_ok-inputs.ensures ∙ ap (flat_map (listed_in Input)) c.as_slice-statements.ensures)

pub invariant_of-result-clause-clocks_below : goal.invariant_of-result-clause-clocks_below
invariant_of-result-clause-clocks_below c = listed_low c.args.names c.args.main.now Clock c.of-2.result c.requires.grows (c.of-2.ensures ∙ c.in_ok-clocks.ensures ∙ ap (flat_map (listed_in Clock)) c.as_slice-statements.ensures)

pub invariant_of-result-clause-outputs_below : goal.invariant_of-result-clause-outputs_below
invariant_of-result-clause-outputs_below c = listed_low c.args.names c.args.main.now Output c.of-3.result c.requires.grows (c.of-3.ensures ∙ c.in_ok-outputs.ensures ∙ ap (flat_map (listed_in Output)) c.as_slice-statements.ensures)

pub invariant_of-result-clause-latches_below : goal.invariant_of-result-clause-latches_below
invariant_of-result-clause-latches_below c = ap (latches_below (length c.args.names)) c.of-4.ensures ∙ c.requires.below

pub invariant_of-result-clause-controls : goal.invariant_of-result-clause-controls
invariant_of-result-clause-controls c = ap (no_nil_control c.args.names) c.of-4.ensures ∙ c.requires.controls

pub invariant_of-result-clause-clocks_once : goal.invariant_of-result-clause-clocks_once
invariant_of-result-clause-clocks_once c =
    ap distinct (listed_words c.args.names c.args.main.now Clock c.of-2.result c.requires.grows (c.of-2.ensures ∙ c.in_ok-clocks.ensures ∙ ap (flat_map (listed_in Clock)) c.as_slice-statements.ensures)) ∙ c.requires.clocks

pub invariant_of-result-clause-sources_once : goal.invariant_of-result-clause-sources_once
invariant_of-result-clause-sources_once c =
    let is : frame_of c.args.names c.in_ok-model.model c.of.result c.of-2.result c.of-3.result c.of-4.result ≡ frame_with c.args.main.now (map (latch_in c.args.names) c.args.latches.items) =
    frame_is c.args.names c.args.main.now c.in_ok-model.model c.of.result c.of-2.result c.of-3.result c.of-4.result c.args.latches.items c.requires.grows (c.in_ok-model.ensures ∙ c.as_slice.ensures)
    (c.of.ensures ∙ c.in_ok-inputs.ensures ∙ ap (flat_map (listed_in Input)) c.as_slice-statements.ensures)
    (c.of-2.ensures ∙ c.in_ok-clocks.ensures ∙ ap (flat_map (listed_in Clock)) c.as_slice-statements.ensures)
    (c.of-3.ensures ∙ c.in_ok-outputs.ensures ∙ ap (flat_map (listed_in Output)) c.as_slice-statements.ensures) c.of-4.ensures in
    ap (λ (f : lists.Frame). distinct (lists.sources f)) is ∙ c.requires.sources

pub returns-clause-frame : goal.returns-clause-frame
returns-clause-frame c =
    frame_is c.args.names c.args.main.now c.in_ok-model.model c.of.result c.of-2.result c.of-3.result c.of-4.result c.args.latches.items c.requires.grows (c.in_ok-model.ensures ∙ c.as_slice.ensures)
    (c.of.ensures ∙ c.in_ok-inputs.ensures ∙ ap (flat_map (listed_in Input)) c.as_slice-statements.ensures)
    (c.of-2.ensures ∙ c.in_ok-clocks.ensures ∙ ap (flat_map (listed_in Clock)) c.as_slice-statements.ensures)
    (c.of-3.ensures ∙ c.in_ok-outputs.ensures ∙ ap (flat_map (listed_in Output)) c.as_slice-statements.ensures) c.of-4.ensures
