use Rattle.std.proofs.Common.{arith}
use Rattle.syn_graph.proofs.Counting.{rows_few}
use Rattle.syn_graph.proofs.references.count_rows.Goals as goal

pub count_row-requires-clause-few : goal.count_row-requires-clause-few
count_row-requires-clause-few c = λ m. omega (arith, c.loop-row.invariant m, rows_few m c.loop-row.row-index c.args.rows.now, c.requires.few, c.loop-row.auto.row-index-end)

pub returns-clause-few : goal.returns-clause-few
returns-clause-few c = λ m. omega (arith, c.loop-row.invariant m, rows_few m c.loop-row.row-index c.args.rows.now, c.loop-row.auto.row-index-end)
