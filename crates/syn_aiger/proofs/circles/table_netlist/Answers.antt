use Rattle.std.proofs.Common.{◌≡◌, ◌+◌, length, ap, ◌∙◌, arith}
use Rattle.syn_lists.specs.Numbers.{numbers_from}
use Rattle.syn_aiger.specs.Values.{source_literals}
use Rattle.syn_aiger.proofs.Netting.{net_clocks, net_clocks_once, net_controls, net_inputs, net_is, net_latches, net_model, net_once, net_outputs, net_sources, net_tables}
use Rattle.syn_aiger.proofs.circles.table_netlist.Goals as goal

pub invariant_of-frame : goal.invariant_of-frame
invariant_of-frame c =
    let g = c.args.file.now.aig in
    let many : c.source_count.result + 1 ≡ length (source_literals g) + 1 = omega (arith, c.source_count.ensures) in
    record {
      model_is_word = net_model g c.args.file.now.sound c.in_ok-names.names c.of.result c.of-2.result c.of-3.result c.of-4.result c.of-5.result c.in_ok-names.ensures (c.of.ensures ∙ c.in_ok-model.ensures.items_if_clones_equal (λ x y e. e)) (c.of-2.ensures ∙ c.in_ok-inputs.ensures ∙ ap (numbers_from 0) many) (c.of-3.ensures ∙ c.new-none.ensures.items) (c.of-4.ensures ∙ c.new-outputs.ensures.items) (c.of-5.ensures ∙ c.new-latches.ensures.items);
      inputs_below = net_inputs g c.args.file.now.sound c.in_ok-names.names c.of.result c.of-2.result c.of-3.result c.of-4.result c.of-5.result c.in_ok-names.ensures (c.of.ensures ∙ c.in_ok-model.ensures.items_if_clones_equal (λ x y e. e)) (c.of-2.ensures ∙ c.in_ok-inputs.ensures ∙ ap (numbers_from 0) many) (c.of-3.ensures ∙ c.new-none.ensures.items) (c.of-4.ensures ∙ c.new-outputs.ensures.items) (c.of-5.ensures ∙ c.new-latches.ensures.items);
      clocks_below = net_clocks g c.args.file.now.sound c.in_ok-names.names c.of.result c.of-2.result c.of-3.result c.of-4.result c.of-5.result c.in_ok-names.ensures (c.of.ensures ∙ c.in_ok-model.ensures.items_if_clones_equal (λ x y e. e)) (c.of-2.ensures ∙ c.in_ok-inputs.ensures ∙ ap (numbers_from 0) many) (c.of-3.ensures ∙ c.new-none.ensures.items) (c.of-4.ensures ∙ c.new-outputs.ensures.items) (c.of-5.ensures ∙ c.new-latches.ensures.items);
      outputs_below = net_outputs g c.args.file.now.sound c.in_ok-names.names c.of.result c.of-2.result c.of-3.result c.of-4.result c.of-5.result c.in_ok-names.ensures (c.of.ensures ∙ c.in_ok-model.ensures.items_if_clones_equal (λ x y e. e)) (c.of-2.ensures ∙ c.in_ok-inputs.ensures ∙ ap (numbers_from 0) many) (c.of-3.ensures ∙ c.new-none.ensures.items) (c.of-4.ensures ∙ c.new-outputs.ensures.items) (c.of-5.ensures ∙ c.new-latches.ensures.items);
      latches_below = net_latches g c.args.file.now.sound c.in_ok-names.names c.of.result c.of-2.result c.of-3.result c.of-4.result c.of-5.result c.in_ok-names.ensures (c.of.ensures ∙ c.in_ok-model.ensures.items_if_clones_equal (λ x y e. e)) (c.of-2.ensures ∙ c.in_ok-inputs.ensures ∙ ap (numbers_from 0) many) (c.of-3.ensures ∙ c.new-none.ensures.items) (c.of-4.ensures ∙ c.new-outputs.ensures.items) (c.of-5.ensures ∙ c.new-latches.ensures.items);
      controls = net_controls g c.args.file.now.sound c.in_ok-names.names c.of.result c.of-2.result c.of-3.result c.of-4.result c.of-5.result c.in_ok-names.ensures (c.of.ensures ∙ c.in_ok-model.ensures.items_if_clones_equal (λ x y e. e)) (c.of-2.ensures ∙ c.in_ok-inputs.ensures ∙ ap (numbers_from 0) many) (c.of-3.ensures ∙ c.new-none.ensures.items) (c.of-4.ensures ∙ c.new-outputs.ensures.items) (c.of-5.ensures ∙ c.new-latches.ensures.items);
      clocks_once = net_clocks_once g c.args.file.now.sound c.in_ok-names.names c.of.result c.of-2.result c.of-3.result c.of-4.result c.of-5.result c.in_ok-names.ensures (c.of.ensures ∙ c.in_ok-model.ensures.items_if_clones_equal (λ x y e. e)) (c.of-2.ensures ∙ c.in_ok-inputs.ensures ∙ ap (numbers_from 0) many) (c.of-3.ensures ∙ c.new-none.ensures.items) (c.of-4.ensures ∙ c.new-outputs.ensures.items) (c.of-5.ensures ∙ c.new-latches.ensures.items);
      sources_once = net_sources g c.args.file.now.sound c.in_ok-names.names c.of.result c.of-2.result c.of-3.result c.of-4.result c.of-5.result c.in_ok-names.ensures (c.of.ensures ∙ c.in_ok-model.ensures.items_if_clones_equal (λ x y e. e)) (c.of-2.ensures ∙ c.in_ok-inputs.ensures ∙ ap (numbers_from 0) many) (c.of-3.ensures ∙ c.new-none.ensures.items) (c.of-4.ensures ∙ c.new-outputs.ensures.items) (c.of-5.ensures ∙ c.new-latches.ensures.items);
    }

pub invariant_of-result : goal.invariant_of-result
invariant_of-result c =
    let g = c.args.file.now.aig in
    let many : c.source_count.result + 1 ≡ length (source_literals g) + 1 = omega (arith, c.source_count.ensures) in
    record {
      tables_below = net_tables g c.args.file.now.sound c.in_ok-names.names c.of.result c.of-2.result c.of-3.result c.of-4.result c.of-5.result c.in_ok-names.ensures (c.of.ensures ∙ c.in_ok-model.ensures.items_if_clones_equal (λ x y e. e)) (c.of-2.ensures ∙ c.in_ok-inputs.ensures ∙ ap (numbers_from 0) many) (c.of-3.ensures ∙ c.new-none.ensures.items) (c.of-4.ensures ∙ c.new-outputs.ensures.items) (c.of-5.ensures ∙ c.new-latches.ensures.items) c.of-6.result c.in_ok-tables.tables.items c.of-6.ensures c.in_ok-tables.ensures.below c.in_ok-tables.ensures.tables;
      once = net_once g c.args.file.now.sound c.in_ok-names.names c.of.result c.of-2.result c.of-3.result c.of-4.result c.of-5.result c.in_ok-names.ensures (c.of.ensures ∙ c.in_ok-model.ensures.items_if_clones_equal (λ x y e. e)) (c.of-2.ensures ∙ c.in_ok-inputs.ensures ∙ ap (numbers_from 0) many) (c.of-3.ensures ∙ c.new-none.ensures.items) (c.of-4.ensures ∙ c.new-outputs.ensures.items) (c.of-5.ensures ∙ c.new-latches.ensures.items) c.of-6.result c.in_ok-tables.tables.items c.of-6.ensures c.in_ok-tables.ensures.below c.in_ok-tables.ensures.tables;
    }

pub returns : goal.returns
returns c =
    let g = c.args.file.now.aig in
    let many : c.source_count.result + 1 ≡ length (source_literals g) + 1 = omega (arith, c.source_count.ensures) in
    net_is g c.args.file.now.sound c.in_ok-names.names c.of.result c.of-2.result c.of-3.result c.of-4.result c.of-5.result c.in_ok-names.ensures (c.of.ensures ∙ c.in_ok-model.ensures.items_if_clones_equal (λ x y e. e)) (c.of-2.ensures ∙ c.in_ok-inputs.ensures ∙ ap (numbers_from 0) many) (c.of-3.ensures ∙ c.new-none.ensures.items) (c.of-4.ensures ∙ c.new-outputs.ensures.items) (c.of-5.ensures ∙ c.new-latches.ensures.items) c.of-6.result c.in_ok-tables.tables.items c.of-6.ensures c.in_ok-tables.ensures.below c.in_ok-tables.ensures.tables
