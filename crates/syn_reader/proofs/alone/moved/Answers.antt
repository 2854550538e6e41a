use Rattle.std.proofs.Common.{◌≡◌, ◌++◌, List, flat_map, length, map, ap, ap₂, ◌∙◌}
use Rattle.syn_netlist.specs.Kept.{latches_below, no_nil_control}
use Rattle.syn_netlist.specs.Lists as lists
use Rattle.syn_netlist.specs.Lists.{output_of}
use Rattle.syn_netlist.specs.Tables.{table_in, tables_below}
use Rattle.syn_netlist.specs.Words.{distinct}
use Rattle.syn_netlist.proofs.Growing.{Grows-same}
use Rattle.syn_models.specs.declared.ports.Role.TheVariants.{Clock, Input, Output}
use Rattle.syn_models.specs.Listed.{listed_in}
use Rattle.syn_models.specs.Models.{alone, tables_of}
use Rattle.syn_models.specs.Views.{model_in}
use Rattle.syn_models.proofs.Assembling.{listed_low, listed_words, sources_once}
use Rattle.syn_reader.specs.Alone.{latches_in, tables_in}
use Rattle.syn_reader.proofs.Moving.{latches_low, moved_controls, moved_frame, tables_low, tables_words}
use Rattle.syn_reader.proofs.alone.moved.Goals as goal

pub invariant_of-frame : goal.invariant_of-frame
invariant_of-frame c =
    let m = c.args.main in
    let names = m.names in
    let listed = c.in_ok-lists.ensures in
    let inputs = c.of.ensures ∙ (listed.inputs ∙ ap (flat_map (listed_in Input)) c.into_vec.ensures) in
    let clocks = c.of-2.ensures ∙ (listed.clocks ∙ ap (flat_map (listed_in Clock)) c.into_vec.ensures) in
    let outputs = c.of-3.ensures ∙ (listed.outputs ∙ ap (flat_map (listed_in Output)) c.into_vec.ensures) in
    let latches = c.of-4.ensures ∙ (listed.latches ∙ ap (flat_map latches_in) c.into_vec.ensures) in
    record {
      model_is_word = m.name_is_word;
      inputs_below = listed_low names m Input c.of.result (Grows-same names) inputs;
      clocks_below = listed_low names m Clock c.of-2.result (Grows-same names) clocks;
      outputs_below = listed_low names m Output c.of-3.result (Grows-same names) outputs;
      latches_below = ap (latches_below (length names)) latches ∙ latches_low (length names) m.statements m.below;
      controls = ap (no_nil_control names) latches ∙ moved_controls m;
      clocks_once = ap distinct (listed_words names m Clock c.of-2.result (Grows-same names) clocks) ∙ m.once.clocks;
      sources_once = ap (λ (f : lists.Frame). distinct (lists.sources f)) (moved_frame m c.of.result c.of-2.result c.of-3.result c.of-4.result inputs clocks outputs latches) ∙ sources_once (alone (model_in m)) m.once;
    }

pub invariant_of-netlist : goal.invariant_of-netlist
invariant_of-netlist c =
    let m = c.args.main in
    let names = m.names in
    let listed = c.in_ok-lists.ensures in
    let inputs = c.of.ensures ∙ (listed.inputs ∙ ap (flat_map (listed_in Input)) c.into_vec.ensures) in
    let clocks = c.of-2.ensures ∙ (listed.clocks ∙ ap (flat_map (listed_in Clock)) c.into_vec.ensures) in
    let outputs = c.of-3.ensures ∙ (listed.outputs ∙ ap (flat_map (listed_in Output)) c.into_vec.ensures) in
    let latches = c.of-4.ensures ∙ (listed.latches ∙ ap (flat_map latches_in) c.into_vec.ensures) in
    let tables = c.of-5.ensures ∙ (listed.tables ∙ ap (flat_map tables_in) c.into_vec.ensures) in
    let frame = moved_frame m c.of.result c.of-2.result c.of-3.result c.of-4.result inputs clocks outputs latches in
    let spelled : map (table_in names) c.of-5.result ≡ tables_of (model_in m) = ap (map (table_in names)) tables ∙ tables_words names m.statements in
    record {
      tables_below = ap (tables_below (length names)) tables ∙ tables_low (length names) m.statements m.below;
      once = ap₂ (λ (f : lists.Frame) (ts : List lists.Table). distinct (lists.sources f ++ map output_of ts)) frame spelled ∙ m.once.all;
    }

pub returns-clause-netlist : goal.returns-clause-netlist
returns-clause-netlist c =
    let m = c.args.main in
    let names = m.names in
    let listed = c.in_ok-lists.ensures in
    let inputs = c.of.ensures ∙ (listed.inputs ∙ ap (flat_map (listed_in Input)) c.into_vec.ensures) in
    let clocks = c.of-2.ensures ∙ (listed.clocks ∙ ap (flat_map (listed_in Clock)) c.into_vec.ensures) in
    let outputs = c.of-3.ensures ∙ (listed.outputs ∙ ap (flat_map (listed_in Output)) c.into_vec.ensures) in
    let latches = c.of-4.ensures ∙ (listed.latches ∙ ap (flat_map latches_in) c.into_vec.ensures) in
    let tables = c.of-5.ensures ∙ (listed.tables ∙ ap (flat_map tables_in) c.into_vec.ensures) in
    let frame = moved_frame m c.of.result c.of-2.result c.of-3.result c.of-4.result inputs clocks outputs latches in
    let spelled : map (table_in names) c.of-5.result ≡ tables_of (model_in m) = ap (map (table_in names)) tables ∙ tables_words names m.statements in
    ap₂ (λ (f : lists.Frame) (ts : List lists.Table). netlist f ts) frame spelled
  where
    netlist : lists.Frame → List lists.Table → lists.Netlist
    netlist f ts = record { frame = f; tables = ts }
