use Rattle.std.proofs.Common.{List, length, drop, ap, arith, length-append}
use Rattle.syn_aiger_files.specs.declared.files.AigAnd.{AigAnd}
use Rattle.syn_aiger.specs.Writing.{ands_by}
use Rattle.syn_aiger.proofs.WrittenFiles.{ands_fewer}
use Rattle.syn_aiger.proofs.writer.ands_from.Goals as goal

pub returns-clause-few : goal.returns-clause-few
returns-clause-few c =
    omega (
      arith,
      length-append c.loop-row.ands.items (ands_by c.loop-row.node (drop c.loop-row.row-index c.args.rows.now)),
      ap (λ (l : List AigAnd). length l) c.loop-row.invariant.ands,
      ands_fewer c.args.first c.args.rows.now,
    )
