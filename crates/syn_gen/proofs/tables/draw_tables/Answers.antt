use Rattle.std.proofs.Common.{◌+◌, ◌-◌, arith}
use Rattle.syn_gen.specs.Generated.{generated_tables}
use Rattle.syn_gen.proofs.Drawing.{below_more, more_tables}
use Rattle.syn_gen.proofs.tables.draw_tables.Goals as goal

pub loop-output-preserved : goal.loop-output-preserved
loop-output-preserved c =
    let keeps = c.loop-output.invariant in
    let d = c.table-drawn in
    let t = c.in_ok-table_of.ensures in
    let output = c.loop-output.output in
    let told = c.in_ok-push.ensures.items in
    record {
      tables = λ names are. more_tables (16 + c.args.size) names c.loop-output.tables.items c.push.new.self.items (16 + c.args.size - (output + 1)) (16 + c.args.size - output) output (output + 1) c.loop-output.draws.state c.table-drawn.new.self.state
          d.result c.in_ok-table_of.field-0 (generated_tables c.args.seed c.args.size) are (omega arith) d.ensures.first d.ensures.second d.ensures.third
          t.output t.inputs t.rows t.on d.ensures.drawn d.ensures.state told (omega arith) (omega arith) (keeps.tables names are);
      below = below_more (16 + c.args.size) c.loop-output.tables.items c.push.new.self.items output d.result c.in_ok-table_of.field-0 (omega arith) d.ensures.first d.ensures.second d.ensures.third t.output t.inputs told keeps.below;
    }
