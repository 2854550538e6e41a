use Rattle.std.proofs.Common.{◌≡◌, true, length, rules, sym, subst, get_or}
use Rattle.syn_rows.specs.declared.Row.TheVariants.{And}
use Rattle.syn_rows.specs.Rows.{row_at}
use Rattle.syn_rows.specs.Nodes.{has_node}
use Rattle.syn_rows.proofs.Nodes.{has_at}
use Rattle.syn_cones.specs.Values.{value_over}
use Rattle.syn_resub.specs.Divided.{HasValues}
use Rattle.syn_resub.proofs.Tabled.{and_has, fan_ins_listed, first_before, leaf_has, second_before}
use Rattle.syn_resub.proofs.divided.divisor_table.Goals as goal

pub returns-in-Some : goal.returns-in-Some
returns-in-Some c =
    let rows = c.args.graph.now.rows in
    let leaves = c.args.leaves.now in
    let n = c.node_at-divisor.result in
    let at : n ≡ get_or c.args.nodes.now (length c.args.tables.now) 0 = c.node_at-divisor.ensures in
    let here : has_node c.args.nodes.now n ≡ true = has_at c.args.nodes.now (length c.args.tables.now) n c.requires.next (sym at) in
    subst (λ k. HasValues (length leaves) c.var.result (value_over rows leaves k)) at
    (leaf_has c.args.graph.now c.args.node leaves c.args.nodes.now c.requires.gate c.requires.leaves c.requires.divisors n c.in-Some.i c.var.result here c.in-Some.ensures.there c.in-Some.ensures.some.0 c.var.ensures.vars c.var.ensures.values)

pub lit_table-first-requires-clause-there : goal.lit_table-first-requires-clause-there
lit_table-first-requires-clause-there c =
    let n = c.node_at-divisor.result in
    let is : row_at c.args.graph.now.rows n ≡ And c.in-And.a c.in-And.b = search rules in
    first_before c.args.graph.now c.args.node c.args.leaves.now c.args.nodes.now c.requires.gate c.requires.leaves c.requires.divisors (length c.args.tables.now) n c.in-And.a c.in-And.b c.node_at-divisor.ensures is

pub lit_table-first-requires-clause-has : goal.lit_table-first-requires-clause-has
lit_table-first-requires-clause-has c =
    let n = c.node_at-divisor.result in
    let is : row_at c.args.graph.now.rows n ≡ And c.in-And.a c.in-And.b = search rules in
    let here : has_node c.args.nodes.now n ≡ true = has_at c.args.nodes.now (length c.args.tables.now) n c.requires.next (sym c.node_at-divisor.ensures) in
    (fan_ins_listed c.args.graph.now c.args.node c.args.leaves.now c.args.nodes.now c.requires.gate c.requires.leaves c.requires.divisors n c.in-And.a c.in-And.b here c.in_default.ensures.none is).0

pub lit_table-requires-clause-there : goal.lit_table-requires-clause-there
lit_table-requires-clause-there c =
    let n = c.node_at-divisor.result in
    let is : row_at c.args.graph.now.rows n ≡ And c.in-And.a c.in-And.b = search rules in
    second_before c.args.graph.now c.args.node c.args.leaves.now c.args.nodes.now c.requires.gate c.requires.leaves c.requires.divisors (length c.args.tables.now) n c.in-And.a c.in-And.b c.node_at-divisor.ensures is

pub lit_table-requires-clause-has : goal.lit_table-requires-clause-has
lit_table-requires-clause-has c =
    let n = c.node_at-divisor.result in
    let is : row_at c.args.graph.now.rows n ≡ And c.in-And.a c.in-And.b = search rules in
    let here : has_node c.args.nodes.now n ≡ true = has_at c.args.nodes.now (length c.args.tables.now) n c.requires.next (sym c.node_at-divisor.ensures) in
    (fan_ins_listed c.args.graph.now c.args.node c.args.leaves.now c.args.nodes.now c.requires.gate c.requires.leaves c.requires.divisors n c.in-And.a c.in-And.b here c.in_default.ensures.none is).1

pub returns-in-And : goal.returns-in-And
returns-in-And c =
    let rows = c.args.graph.now.rows in
    let leaves = c.args.leaves.now in
    let n = c.node_at-divisor.result in
    let is : row_at rows n ≡ And c.in-And.a c.in-And.b = search rules in
    let at : n ≡ get_or c.args.nodes.now (length c.args.tables.now) 0 = c.node_at-divisor.ensures in
    let here : has_node c.args.nodes.now n ≡ true = has_at c.args.nodes.now (length c.args.tables.now) n c.requires.next (sym at) in
    subst (λ k. HasValues (length leaves) c.and.result (value_over rows leaves k)) at
    (and_has c.args.graph.now c.args.node leaves c.args.nodes.now c.requires.gate c.requires.leaves c.requires.divisors n c.in-And.a c.in-And.b c.lit_table-first.result c.lit_table.result c.and.result here c.in_default.ensures.none is
    c.lit_table-first.ensures c.lit_table.ensures c.and.ensures.vars c.and.ensures.values)
