use Rattle.std.proofs.Common.{◌≡◌, ◌++◌, ℕ, List, length, map, sym, ap₂, ◌∙◌, subst}
use Rattle.syn_netlist.specs.declared.tables.Table.{Table}
use Rattle.syn_netlist.specs.Kept.{latch_in}
use Rattle.syn_netlist.specs.Lists as lists
use Rattle.syn_netlist.specs.Lists.{output_of, sources}
use Rattle.syn_netlist.specs.Tables.{table_in, tables_below}
use Rattle.syn_netlist.specs.Words.{distinct}
use Rattle.syn_models.specs.Answers.{frame_with, models_in}
use Rattle.syn_models.specs.Flattening.{IsFlattening}
use Rattle.syn_models.specs.Views.{model_in}
use Rattle.syn_models.proofs.Assembling.{IsAssembled, put_together, parts_low, sources_once, controls_clear}
use Rattle.syn_models.proofs.flat.flat_netlist.Goals as goal

pub flat_frame-requires-clause-controls : goal.flat_frame-requires-clause-controls
flat_frame-requires-clause-controls c =
    let w = c.args.walked.now in
    let a : IsAssembled c.args.models.now c.args.main.now (map (latch_in c.in_ok-called.called.names) c.in_ok-latches.latches.items) (map (table_in c.in_ok-called.called.names) c.in_ok-tables.tables.items) =
    put_together c.args.models.now c.args.main.now w.instances.items c.as_slice-instances.result.now w.parts.items c.as_slice-parts.result.now c.in_ok-called.called.names c.in_ok-called.called.maps.items c.as_slice.result.now c.as_slice-2.result.now c.in_ok-count.count c.in_ok-latches.latches.items c.in_ok-tables.tables.items
    c.as_slice-instances.ensures.value c.as_slice-parts.ensures.value c.as_slice.ensures.value c.as_slice-2.ensures.value c.requires.first c.requires.walked c.requires.none c.in_ok-count.ensures c.in_ok-called.ensures.each c.in_ok-latches.ensures.each c.in_ok-tables.ensures.each in
    controls_clear c.in_ok-called.called.names c.in_ok-latches.latches.items a.clear

pub flat_frame-requires-clause-sources : goal.flat_frame-requires-clause-sources
flat_frame-requires-clause-sources c =
    let w = c.args.walked.now in
    let a : IsAssembled c.args.models.now c.args.main.now (map (latch_in c.in_ok-called.called.names) c.in_ok-latches.latches.items) (map (table_in c.in_ok-called.called.names) c.in_ok-tables.tables.items) =
    put_together c.args.models.now c.args.main.now w.instances.items c.as_slice-instances.result.now w.parts.items c.as_slice-parts.result.now c.in_ok-called.called.names c.in_ok-called.called.maps.items c.as_slice.result.now c.as_slice-2.result.now c.in_ok-count.count c.in_ok-latches.latches.items c.in_ok-tables.tables.items
    c.as_slice-instances.ensures.value c.as_slice-parts.ensures.value c.as_slice.ensures.value c.as_slice-2.ensures.value c.requires.first c.requires.walked c.requires.none c.in_ok-count.ensures c.in_ok-called.ensures.each c.in_ok-latches.ensures.each c.in_ok-tables.ensures.each in
    sources_once (record { frame = frame_with c.args.main.now (map (latch_in c.in_ok-called.called.names) c.in_ok-latches.latches.items); tables = map (table_in c.in_ok-called.called.names) c.in_ok-tables.tables.items }) a.once

pub invariant_of-result-clause-tables_below : goal.invariant_of-result-clause-tables_below
invariant_of-result-clause-tables_below c =
    let w = c.args.walked.now in
    ap₂ (λ (names : List (List ℕ)) (ts : List Table). tables_below (length names) ts) c.in_ok-frame.ensures.names c.of.ensures
    ∙ c.in_ok-tables.ensures.below (length c.in_ok-called.called.names)
    (parts_low (map model_in c.args.models.now) c.args.main.now w.instances.items c.as_slice-instances.result.now w.parts.items c.as_slice-parts.result.now (length c.in_ok-called.called.names) c.in_ok-called.called.maps.items c.as_slice-2.result.now
    c.as_slice-instances.ensures.value c.as_slice-parts.ensures.value c.as_slice-2.ensures.value c.requires.walked c.in_ok-called.ensures.maps)

pub invariant_of-result-clause-once : goal.invariant_of-result-clause-once
invariant_of-result-clause-once c =
    let w = c.args.walked.now in
    let a : IsAssembled c.args.models.now c.args.main.now (map (latch_in c.in_ok-called.called.names) c.in_ok-latches.latches.items) (map (table_in c.in_ok-called.called.names) c.in_ok-tables.tables.items) =
    put_together c.args.models.now c.args.main.now w.instances.items c.as_slice-instances.result.now w.parts.items c.as_slice-parts.result.now c.in_ok-called.called.names c.in_ok-called.called.maps.items c.as_slice.result.now c.as_slice-2.result.now c.in_ok-count.count c.in_ok-latches.latches.items c.in_ok-tables.tables.items
    c.as_slice-instances.ensures.value c.as_slice-parts.ensures.value c.as_slice.ensures.value c.as_slice-2.ensures.value c.requires.first c.requires.walked c.requires.none c.in_ok-count.ensures c.in_ok-called.ensures.each c.in_ok-latches.ensures.each c.in_ok-tables.ensures.each in
    let tables : map (table_in c.in_ok-frame.frame.names) c.of.result ≡ map (table_in c.in_ok-called.called.names) c.in_ok-tables.tables.items = ap₂ (λ (names : List (List ℕ)) (ts : List Table). map (table_in names) ts) c.in_ok-frame.ensures.names c.of.ensures in
    ap₂ (λ (f : lists.Frame) (ts : List lists.Table). distinct (sources f ++ map output_of ts)) c.in_ok-frame.ensures.frame tables ∙ a.once.all

pub returns-clause-flattening : goal.returns-clause-flattening
returns-clause-flattening c =
    let w = c.args.walked.now in
    let a : IsAssembled c.args.models.now c.args.main.now (map (latch_in c.in_ok-called.called.names) c.in_ok-latches.latches.items) (map (table_in c.in_ok-called.called.names) c.in_ok-tables.tables.items) =
    put_together c.args.models.now c.args.main.now w.instances.items c.as_slice-instances.result.now w.parts.items c.as_slice-parts.result.now c.in_ok-called.called.names c.in_ok-called.called.maps.items c.as_slice.result.now c.as_slice-2.result.now c.in_ok-count.count c.in_ok-latches.latches.items c.in_ok-tables.tables.items
    c.as_slice-instances.ensures.value c.as_slice-parts.ensures.value c.as_slice.ensures.value c.as_slice-2.ensures.value c.requires.first c.requires.walked c.requires.none c.in_ok-count.ensures c.in_ok-called.ensures.each c.in_ok-latches.ensures.each c.in_ok-tables.ensures.each in
    let tables : map (table_in c.in_ok-frame.frame.names) c.of.result ≡ map (table_in c.in_ok-called.called.names) c.in_ok-tables.tables.items = ap₂ (λ (names : List (List ℕ)) (ts : List Table). map (table_in names) ts) c.in_ok-frame.ensures.names c.of.ensures in
    subst (λ (f : lists.Frame). IsFlattening (models_in c.args.models.now) (record { frame = f; tables = map (table_in c.in_ok-frame.frame.names) c.of.result })) (sym c.in_ok-frame.ensures.frame)
    (subst (λ (ts : List lists.Table). IsFlattening (models_in c.args.models.now) (record { frame = frame_with c.args.main.now (map (latch_in c.in_ok-called.called.names) c.in_ok-latches.latches.items); tables = ts })) (sym tables) a.flat)
