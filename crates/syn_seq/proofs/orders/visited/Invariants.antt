use Rattle.std.proofs.Common.{◌+◌, vec_len}
use Rattle.std.specs.List.{sum_by}
use Rattle.syn_rows.specs.Walk.{unmarked}
use Rattle.syn_seq.proofs.orders.visited.Given as goal

abbrev pub decreases-loop-step : goal.decreases-loop-step
decreases-loop-step l = sum_by unmarked l.marks.items + vec_len l.stack
