use Rattle.std.proofs.Common.{◌≡◌, ◌++◌, map, ◌∙◌, ap, rules}
use Rattle.syn_netlist.specs.Numbers.{all_below}
use Rattle.syn_netlist.specs.Walk.{table_output}
use Rattle.syn_netlist.proofs.Firsts.{table_outputs_below}
use Rattle.syn_netlist.proofs.Places.{all_below-append}
use Rattle.syn_netlist.proofs.undriven_names.defined_marks.Goals as goal

pub marks_of-requires : goal.marks_of-requires
marks_of-requires c =
    let all : c.deref.result.now ≡ c.args.sources.items ++ map table_output c.args.tables.now = search rules in
    ap (all_below c.args.count) all ∙ all_below-append c.args.count c.args.sources.items (map table_output c.args.tables.now) c.requires.sources (table_outputs_below c.args.count c.args.tables.now c.requires.tables)
