use Rattle.std.proofs.Common.{All}
use Rattle.std.specs.Arc.{arc_value}
use Rattle.syn_cuts.proofs.levels.work.Given as goal

abbrev pub invariant-loop : goal.invariant-loop
invariant-loop g l = All (λ found. g.P.SlotRule.holds l.board.tag.numbers (arc_value found)) l.all.items
