use Rattle.std.proofs.Common.{◌≡◌, ◌%◌, not, length, rules, sym, subst}
use Rattle.syn_rows.specs.Rows.{node_of}
use Rattle.syn_cones.specs.Values.{value_over}
use Rattle.syn_resub.specs.Divided.{HasValues, lit_over}
use Rattle.syn_resub.proofs.Valued.{lit_complemented, lit_plain, values_again, values_not}
use Rattle.syn_resub.proofs.divided.lit_table.Goals as goal

pub returns-then-complemented : goal.returns-then-complemented
returns-then-complemented c =
    let rows = c.args.graph.now.rows in
    let leaves = c.args.leaves.now in
    let odd : c.args.lit.0 % 2 ≡ 1 = search rules in
    let has : HasValues (length leaves) c.table_before-table.result (value_over rows leaves (node_of c.args.lit)) = subst (λ n. HasValues (length leaves) c.table_before-table.result (value_over rows leaves n)) c.node.ensures c.table_before-table.ensures in
    values_again (length leaves) c.not.result (λ xs. not (value_over rows leaves (node_of c.args.lit) xs)) (lit_over rows leaves c.args.lit) (λ xs long. sym (lit_complemented rows leaves c.args.lit xs odd))
    (values_not (length leaves) c.table_before-table.result c.not.result (value_over rows leaves (node_of c.args.lit)) c.not.ensures.vars c.not.ensures.values has)

pub returns-else-complemented : goal.returns-else-complemented
returns-else-complemented c =
    let rows = c.args.graph.now.rows in
    let leaves = c.args.leaves.now in
    let even : c.args.lit.0 % 2 ≡ 0 = search rules in
    let has : HasValues (length leaves) c.table_before-table.result (value_over rows leaves (node_of c.args.lit)) = subst (λ n. HasValues (length leaves) c.table_before-table.result (value_over rows leaves n)) c.node.ensures c.table_before-table.ensures in
    values_again (length leaves) c.table_before-table.result (value_over rows leaves (node_of c.args.lit)) (lit_over rows leaves c.args.lit) (λ xs long. sym (lit_plain rows leaves c.args.lit xs even)) has
