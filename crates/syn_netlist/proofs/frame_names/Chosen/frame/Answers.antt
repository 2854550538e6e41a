use Rattle.std.proofs.Common.{◌≡◌, ap, ◌∙◌, rules}
use Rattle.syn_netlist.specs.declared.frames.Frame.{Frame}
use Rattle.syn_netlist.specs.Lists as lists
use Rattle.syn_netlist.specs.Words.{distinct, is_word}
use Rattle.syn_netlist.proofs.OwnNames.{among, latches_among, own_has_all}
use Rattle.syn_netlist.proofs.Renumbering.{same_controls, same_in_words, says_same, SaysSame}
use Rattle.syn_netlist.proofs.frame_names.Chosen.frame.Goals as goal

pub numbers-requires-clause-there : goal.numbers-requires-clause-there
numbers-requires-clause-there c = among c.args.self.names c.args.self.all.now c.as_slice-2.result.now c.args.frame.now c.args.frame.now.inputs c.requires.own c.requires.all c.as_slice-2.ensures (own_has_all c.args.frame.now).inputs

pub numbers-requires-2-clause-there : goal.numbers-requires-2-clause-there
numbers-requires-2-clause-there c = among c.args.self.names c.args.self.all.now c.as_slice-3.result.now c.args.frame.now c.args.frame.now.clocks c.requires.own c.requires.all c.as_slice-3.ensures (own_has_all c.args.frame.now).clocks

pub numbers-requires-3-clause-there : goal.numbers-requires-3-clause-there
numbers-requires-3-clause-there c = among c.args.self.names c.args.self.all.now c.as_slice-4.result.now c.args.frame.now c.args.frame.now.outputs c.requires.own c.requires.all c.as_slice-4.ensures (own_has_all c.args.frame.now).outputs

pub latches-requires-clause-there : goal.latches-requires-clause-there
latches-requires-clause-there c = latches_among c.args.self.names c.args.self.all.now c.as_slice-5.result.now c.args.frame.now c.requires.own c.requires.all c.as_slice-5.ensures

pub invariant_of-result : goal.invariant_of-result
invariant_of-result c =
    let f : Frame = c.args.frame.now in
    let copied : c.of-model.result ≡ f.model = search rules in
    let s : SaysSame f c.args.self.names c.of-model.result c.in_ok-inputs.inputs c.in_ok-clocks.clocks c.in_ok-outputs.outputs c.in_ok-latches.latches =
    says_same f c.args.self.names c.args.self.all.now c.of-model.result c.in_ok-inputs.inputs c.in_ok-clocks.clocks c.in_ok-outputs.outputs c.as_slice-2.result.now c.as_slice-3.result.now c.as_slice-4.result.now c.in_ok-latches.latches c.as_slice-5.result.now
    c.requires.all copied c.as_slice-2.ensures c.as_slice-3.ensures c.as_slice-4.ensures c.as_slice-5.ensures c.in_ok-inputs.ensures.words c.in_ok-clocks.ensures.words c.in_ok-outputs.ensures.words c.in_ok-latches.ensures.words in
    record {
      model_is_word = ap is_word s.same_model ∙ f.model_is_word;
      inputs_below = c.in_ok-inputs.ensures.below;
      clocks_below = c.in_ok-clocks.ensures.below;
      outputs_below = c.in_ok-outputs.ensures.below;
      latches_below = c.in_ok-latches.ensures.below;
      controls = same_controls f c.args.self.names c.in_ok-latches.latches s.same_latches;
      clocks_once = ap distinct s.same_clocks ∙ f.clocks_once;
      sources_once = ap (λ (fr : lists.Frame). distinct (lists.sources fr)) (same_in_words f c.args.self.names c.of-model.result c.in_ok-inputs.inputs c.in_ok-clocks.clocks c.in_ok-outputs.outputs c.in_ok-latches.latches s) ∙ f.sources_once;
    }

pub returns-clause-same : goal.returns-clause-same
returns-clause-same c =
    let f : Frame = c.args.frame.now in
    let copied : c.of-model.result ≡ f.model = search rules in
    same_in_words f c.args.self.names c.of-model.result c.in_ok-inputs.inputs c.in_ok-clocks.clocks c.in_ok-outputs.outputs c.in_ok-latches.latches
    (says_same f c.args.self.names c.args.self.all.now c.of-model.result c.in_ok-inputs.inputs c.in_ok-clocks.clocks c.in_ok-outputs.outputs c.as_slice-2.result.now c.as_slice-3.result.now c.as_slice-4.result.now c.in_ok-latches.latches c.as_slice-5.result.now
    c.requires.all copied c.as_slice-2.ensures c.as_slice-3.ensures c.as_slice-4.ensures c.as_slice-5.ensures c.in_ok-inputs.ensures.words c.in_ok-clocks.ensures.words c.in_ok-outputs.ensures.words c.in_ok-latches.ensures.words)
