use Rattle.std.proofs.Common.{All}
use Rattle.syn_cuts.proofs.levels.found_by_levels.Given as goal

abbrev pub invariant-loop-part : goal.invariant-loop-part
invariant-loop-part g l = All (g.P.SlotRule.holds l.tag.numbers) l.all.items
