use Rattle.std.proofs.Common.{◌++◌, length, map, List, ap, ◌∙◌, arith}
use Rattle.syn_netlist.specs.declared.tables.Table as code
use Rattle.syn_netlist.specs.Frames.{frame_in}
use Rattle.syn_netlist.specs.Lists as lists
use Rattle.syn_netlist.specs.Tables.{table_in, tables_below}
use Rattle.syn_netlist.specs.Words.{distinct}
use Rattle.syn_gen.specs.Generated.{unread}
use Rattle.syn_gen.proofs.Whole.{AreParts, below_names, defined_once, names_long, netlist_is}
use Rattle.syn_gen.proofs.generator.generate.Goals as goal

pub invariant_of-result : goal.invariant_of-result
invariant_of-result c =
    let f = c.in_ok-frame.frame in
    let ts = c.in_ok-tables.tables.items in
    let made = c.in_ok-frame.ensures in
    let parts : AreParts c.args.seed c.args.size f ts = record {
      names = made.names;
      model = made.model;
      inputs = made.inputs;
      clocks = made.clocks;
      outputs = made.outputs ∙ ap (λ (l : List code.Table). unread (map (table_in f.names) l)) c.as_slice.ensures.value;
      latches = made.latches;
      tables = c.in_ok-tables.ensures.tables;
    } in
    record {
      tables_below = ap (tables_below (length f.names)) c.of.ensures ∙ below_names c.args.seed c.args.size f ts parts c.in_ok-tables.ensures.below;
      once = ap (λ (l : List code.Table). distinct (lists.sources (frame_in f) ++ map lists.output_of (map (table_in f.names) l))) c.of.ensures ∙ defined_once c.args.seed c.args.size f ts (omega (arith, c.requires)) parts;
    }

pub returns-clause-generated : goal.returns-clause-generated
returns-clause-generated c =
    let f = c.in_ok-frame.frame in
    let ts = c.in_ok-tables.tables.items in
    let made = c.in_ok-frame.ensures in
    ap (λ (l : List code.Table). record { frame = frame_in f; tables = map (table_in f.names) l }) c.of.ensures
    ∙ netlist_is c.args.seed c.args.size f ts (record {
      names = made.names;
      model = made.model;
      inputs = made.inputs;
      clocks = made.clocks;
      outputs = made.outputs ∙ ap (λ (l : List code.Table). unread (map (table_in f.names) l)) c.as_slice.ensures.value;
      latches = made.latches;
      tables = c.in_ok-tables.ensures.tables;
    })

pub returns-clause-names : goal.returns-clause-names
returns-clause-names c =
    let f = c.in_ok-frame.frame in
    let ts = c.in_ok-tables.tables.items in
    let made = c.in_ok-frame.ensures in
    names_long c.args.seed c.args.size f ts (record {
      names = made.names;
      model = made.model;
      inputs = made.inputs;
      clocks = made.clocks;
      outputs = made.outputs ∙ ap (λ (l : List code.Table). unread (map (table_in f.names) l)) c.as_slice.ensures.value;
      latches = made.latches;
      tables = c.in_ok-tables.ensures.tables;
    })
