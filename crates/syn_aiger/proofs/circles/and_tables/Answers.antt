use Rattle.std.proofs.Common.{◌≡◌, ◌+◌, ◌<◌, List, length, ap, arith}
use Rattle.syn_aiger_files.specs.declared.files.AigAnd.{AigAnd}
use Rattle.syn_aiger.specs.Values.{source_literals}
use Rattle.syn_aiger.proofs.Counting.{same_at}
use Rattle.syn_aiger.proofs.Netting.{sides_next, tables_low, tables_more}
use Rattle.syn_aiger.proofs.circles.and_tables.Goals as goal

pub loop-k-preserved : goal.loop-k-preserved
loop-k-preserved c =
    let g = c.args.file.now.aig in
    let sound = c.args.file.now.sound in
    let k = c.loop-k.k in
    let was = c.loop-k.invariant in
    let inside : k < length g.ands = omega (arith, ap (λ (es : List AigAnd). length es) c.as_slice-a-items.ensures) in
    let is : c.source_count-first.result + 1 + k ≡ length (source_literals g) + 1 + k = omega (arith, c.source_count-first.ensures) in
    record {
      below = tables_low g sound k _ _ _ inside (same_at _ _ _ _ c.as_slice-a-items.ensures) is was.sides c.loop-k.tables.items _ _ c.in_ok-push.ensures.items c.in_ok-and_table.ensures.inputs c.in_ok-and_table.ensures.output was.below;
      tables = tables_more g sound k _ _ _ inside (same_at _ _ _ _ c.as_slice-a-items.ensures) is was.sides c.loop-k.tables.items _ _ c.in_ok-push.ensures.items c.in_ok-and_table.ensures.inputs c.in_ok-and_table.ensures.output c.in_ok-and_table.ensures.rows c.in_ok-and_table.ensures.on was.tables;
      sides = sides_next g sound k inside was.sides;
    }
