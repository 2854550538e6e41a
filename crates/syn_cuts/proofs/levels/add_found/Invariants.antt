use Rattle.std.proofs.Common.{All}
use Rattle.syn_cuts.proofs.levels.add_found.Given as goal

abbrev pub invariant-loop-one : goal.invariant-loop-one
invariant-loop-one g l = All (g.P.SlotRule.holds l.tag.numbers) l.all.items
