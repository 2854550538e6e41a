use Rattle.std.proofs.Common.{◌<◌, List, length, ap, arith}
use Rattle.syn_aiger_files.specs.declared.files.AigAnd.{AigAnd}
use Rattle.syn_aiger.proofs.Counting.{rows_on, same_at}
use Rattle.syn_aiger.proofs.Netting.{sides_next}
use Rattle.syn_aiger.proofs.rows.rows.Goals as goal

pub loop-a-preserved : goal.loop-a-preserved
loop-a-preserved c =
    let g = c.args.file.now.aig in
    let k = c.loop-a.a-index in
    let inside : k < length g.ands = omega (arith, ap (λ (es : List AigAnd). length es) c.as_slice-a-items.ensures) in
    record {
      rows = rows_on g g.ands k _ _ c.loop-a.rows.items _ _ _ _ inside (same_at _ _ _ _ c.as_slice-a-items.ensures) c.lit.ensures c.lit-in-loop-a.ensures c.in_ok-push.ensures.items c.loop-a.invariant.rows;
      sides = sides_next g c.args.file.now.sound k inside c.loop-a.invariant.sides;
    }
