use Rattle.std.proofs.Common.{arith}
use Rattle.syn_paths.proofs.Stamped.{zero_up}
use Rattle.syn_paths.proofs.room.wipe.Goals as goal

pub returns-clause-stamps : goal.returns-clause-stamps
returns-clause-stamps c = zero_up c.loop-mark.marks (λ k lt. c.loop-mark.invariant k (omega (arith, lt, c.loop-mark-test.false)))
