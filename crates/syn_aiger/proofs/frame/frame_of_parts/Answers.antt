use Rattle.std.proofs.Common.{◌≡◌, ℕ, List, [], length, ap, ◌∙◌, refl}
use Rattle.syn_netlist.specs.Numbers.{all_below, words_at}
use Rattle.syn_netlist.specs.Words.{distinct}
use Rattle.syn_aiger.proofs.Parting.{frame_apart, frame_is}
use Rattle.syn_aiger.proofs.frame.frame_of_parts.Goals as goal

pub invariant_of-frame : goal.invariant_of-frame
invariant_of-frame c =
    let names = c.args.given.names in
    let none : c.of.result ≡ [] = c.of.ensures ∙ c.new-clocks.ensures.items in
    record {
      model_is_word = c.requires.model_is_word;
      inputs_below = c.requires.inputs_below;
      clocks_below = ap (all_below (length names)) none;
      outputs_below = c.requires.outputs_below;
      latches_below = c.requires.latches_low;
      controls = c.requires.controls;
      clocks_once = ap (λ (ns : List ℕ). distinct (words_at names ns)) none;
      sources_once = frame_apart c.args.file.now.aig _ (frame_is c.args.file.now.aig names names c.args.parts.model c.args.parts.inputs c.of.result c.args.parts.outputs c.args.parts.latches c.requires refl none);
    }

pub returns-clause-frame : goal.returns-clause-frame
returns-clause-frame c =
    frame_is c.args.file.now.aig c.args.given.names c.args.given.names c.args.parts.model c.args.parts.inputs c.of.result c.args.parts.outputs c.args.parts.latches c.requires refl (c.of.ensures ∙ c.new-clocks.ensures.items)
