use Rattle.std.proofs.Common.{◌≡◌, ℕ, Bool, List, Some, option_map, find, flat_map, length, rules, sym, ap, ap₂, ◌∙◌}
use Rattle.syn_netlist.specs.Numbers.{word_at, all_below}
use Rattle.syn_netlist.specs.Walk.{is_unmarked}
use Rattle.syn_models.specs.FlatFaults.{defined_in}
use Rattle.syn_models.specs.Files.{all_in}
use Rattle.syn_models.specs.Reading.{read_in}
use Rattle.syn_models.specs.Views.{model_in}
use Rattle.syn_models.proofs.Undefined.{reads_below, undriven_is}
use Rattle.syn_models.proofs.undriven.model_undriven.Goals as goal

pub first_unmarked-requires : goal.first_unmarked-requires
first_unmarked-requires c =
    ap₂ all_below (ap length c.as_slice-2.ensures.value ∙ c.in_ok-marks.ensures.size) (c.as_slice-3.ensures.value ∙ c.in_ok-reads.ensures ∙ ap (flat_map (read_in (all_in c.args.file.now))) c.as_slice.ensures)
    ∙ reads_below (length c.args.m.now.names) (all_in c.args.file.now) c.args.m.now.statements c.args.m.now.below

pub returns-in-Some : goal.returns-in-Some
returns-in-Some c =
    let is : c.first_unmarked.result ≡ find (is_unmarked c.in_ok-marks.marks.items) (flat_map (read_in (all_in c.args.file.now)) c.args.m.now.statements) =
    c.first_unmarked.ensures.found ∙ ap₂ (λ (ms : List Bool) (ns : List ℕ). find (is_unmarked ms) ns) c.as_slice-2.ensures.value (c.as_slice-3.ensures.value ∙ c.in_ok-reads.ensures ∙ ap (flat_map (read_in (all_in c.args.file.now))) c.as_slice.ensures) in
    let whole = undriven_is c.args.m.now (all_in c.args.file.now) (defined_in (all_in c.args.file.now) (model_in c.args.m.now)) c.in_ok-marks.marks.items c.first_unmarked.result c.in_ok-marks.ensures is in
    let word : c.of.result ≡ word_at c.args.m.now.names c.in-Some.name = search rules in
    ap (λ (w : List ℕ). Some w) word ∙ sym (ap (option_map (word_at c.args.m.now.names)) c.in-Some.is) ∙ whole

pub returns : goal.returns
returns c =
    let is : c.first_unmarked.result ≡ find (is_unmarked c.in_ok-marks.marks.items) (flat_map (read_in (all_in c.args.file.now)) c.args.m.now.statements) =
    c.first_unmarked.ensures.found ∙ ap₂ (λ (ms : List Bool) (ns : List ℕ). find (is_unmarked ms) ns) c.as_slice-2.ensures.value (c.as_slice-3.ensures.value ∙ c.in_ok-reads.ensures ∙ ap (flat_map (read_in (all_in c.args.file.now))) c.as_slice.ensures) in
    let whole = undriven_is c.args.m.now (all_in c.args.file.now) (defined_in (all_in c.args.file.now) (model_in c.args.m.now)) c.in_ok-marks.marks.items c.first_unmarked.result c.in_ok-marks.ensures is in
    sym (ap (option_map (word_at c.args.m.now.names)) c.in-None.is) ∙ whole
