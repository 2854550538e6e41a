use Rattle.std.proofs.Common.{ℕ, ◌++◌, Bool, List, flat_map, ◌∙◌, sym}
use Rattle.syn_netlist.specs.Walk.{is_unmarked, table_inputs}
use Rattle.syn_netlist.proofs.Firsts.{find_front, find_back}
use Rattle.syn_netlist.proofs.undriven_names.first_read.Goals as goal

pub returns-in-Some : goal.returns-in-Some
returns-in-Some c = find_front (is_unmarked c.args.marks.now) c.args.outputs.now (c.args.read.now ++ flat_map table_inputs c.args.tables.now) c.in-Some.n c.in-Some.ensures.found

pub returns-in-Some-first_unmarked : goal.returns-in-Some-first_unmarked
returns-in-Some-first_unmarked c =
    let test : ℕ → Bool = is_unmarked c.args.marks.now in
    let rest : List ℕ = flat_map table_inputs c.args.tables.now in
    find_front test c.args.read.now rest c.in-Some-first_unmarked.n c.in-Some-first_unmarked.ensures.found ∙ sym (find_back test c.args.outputs.now (c.args.read.now ++ rest) c.in-None.ensures.found)

pub returns-in-None-first_unmarked : goal.returns-in-None-first_unmarked
returns-in-None-first_unmarked c =
    let test : ℕ → Bool = is_unmarked c.args.marks.now in
    let rest : List ℕ = flat_map table_inputs c.args.tables.now in
    c.first_unmarked_input.ensures ∙ sym (find_back test c.args.read.now rest c.in-None-first_unmarked.ensures.found) ∙ sym (find_back test c.args.outputs.now (c.args.read.now ++ rest) c.in-None.ensures.found)
