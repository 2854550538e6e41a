use Rattle.std.proofs.Common.{All}
use Rattle.std.specs.Arc.{arc_value}
use Rattle.syn_cuts.proofs.levels.await_chunks.Given as goal

abbrev pub invariant-loop-number : goal.invariant-loop-number
invariant-loop-number g l = All (λ found. g.P.SlotRule.holds l.board.tag.numbers (arc_value found)) l.all.items
