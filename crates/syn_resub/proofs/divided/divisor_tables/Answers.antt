use Rattle.std.proofs.Common.{List, length, get_or, subst, arith}
use Rattle.syn_truth.specs.declared.Truth.{Truth}
use Rattle.syn_cones.specs.Values.{value_over}
use Rattle.syn_resub.specs.Divided.{HasValues}
use Rattle.syn_resub.proofs.Tabled.{tables_more}
use Rattle.syn_resub.proofs.divided.divisor_tables.Goals as goal

pub loop-tables-preserved : goal.loop-tables-preserved
loop-tables-preserved c =
    let lt = c.loop-tables-test.true in
    record {
      within = omega (arith, lt, c.push.ensures.len, c.loop-tables.invariant.within);
      tables = tables_more c.args.graph.now c.args.leaves.now c.args.nodes.now c.loop-tables.tables.items c.push.new.self.items c.divisor_table-table.result c.push.ensures.items c.loop-tables.invariant.tables
          (subst (λ (ts : List Truth). HasValues (length c.args.leaves.now) c.divisor_table-table.result (value_over c.args.graph.now.rows c.args.leaves.now (get_or c.args.nodes.now (length ts) 0))) c.as_slice.ensures.value c.divisor_table-table.ensures);
    }
