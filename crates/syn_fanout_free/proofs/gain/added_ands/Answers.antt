use Rattle.std.proofs.Common.{◌&&◌, length, arith}
use Rattle.syn_rows.specs.Rows.{row_at}
use Rattle.syn_rows.specs.Reach.{is_and}
use Rattle.syn_rows.specs.Values.{value_in}
use Rattle.syn_fanout_free.proofs.Numbers.{one_if-le, count-le}
use Rattle.syn_fanout_free.proofs.gain.added_ands.Goals as goal

pub overflow_add-result : goal.overflow_add-result
overflow_add-result c =
    omega (
      arith,
      c.and_count.ensures.number,
      one_if-le (is_and c.args.row),
      c.marked_ands.ensures,
      c.requires.few,
      count-le (length c.args.extra.now) (λ m. is_and (row_at c.args.extra.now m) && value_in c.as_slice.result.now m),
    )
