use Rattle.std.proofs.Common.{ℕ, ◌+◌, ◌<◌, Bool, List, find, flat_map, length, drop, ◌∙◌, sym, ap, arith}
use Rattle.syn_netlist.specs.declared.tables.Table.{Table}
use Rattle.syn_netlist.specs.Walk.{is_unmarked, table_inputs}
use Rattle.syn_netlist.proofs.Firsts.{find_front, find_back, inputs_drop}
use Rattle.syn_netlist.proofs.undriven_names.first_unmarked_input.Goals as goal

pub returns-in-Some : goal.returns-in-Some
returns-in-Some c =
    let tables : List Table = c.args.tables.now in
    let i : ℕ = c.loop-table.table-index in
    let test : ℕ → Bool = is_unmarked c.args.marks.now in
    let inside : i < length tables = omega arith in
    find_front test c.table-item.result.inputs (flat_map table_inputs (drop (i + 1) tables)) c.in-Some.n (c.in-Some.ensures.found ∙ ap (λ (l : List ℕ). find test l) c.as_slice.ensures)
    ∙ ap (λ (l : List ℕ). find test l) (sym (inputs_drop tables i c.table-item.result inside c.table-item.is)) ∙ c.loop-table.invariant

pub loop-table-preserved : goal.loop-table-preserved
loop-table-preserved c =
    let tables : List Table = c.args.tables.now in
    let i : ℕ = c.loop-table.table-index in
    let test : ℕ → Bool = is_unmarked c.args.marks.now in
    let inside : i < length tables = omega arith in
    sym (find_back test c.table-item.result.inputs (flat_map table_inputs (drop (i + 1) tables)) (c.in-None.ensures.found ∙ ap (λ (l : List ℕ). find test l) c.as_slice.ensures))
    ∙ ap (λ (l : List ℕ). find test l) (sym (inputs_drop tables i c.table-item.result inside c.table-item.is)) ∙ c.loop-table.invariant
