use Rattle.std.proofs.Common.{ℕ, List}
use Rattle.syn_rows.specs.declared.Row.{Row}
use Rattle.syn_cuts.specs.Leaves.{leaves_of}
use Rattle.syn_covering.specs.Cuts.{IsLutCut}
use Rattle.syn_area.specs.Kept.{AreCandidates, AreListed, Joins}
use Rattle.syn_area.proofs.rounds.cuts_of.Given as goal

abbrev pub invariant-loop-pick : goal.invariant-loop-pick
invariant-loop-pick l =
    (rows : List Row) (node : ℕ) → Joins l.k rows l.a l.b node → AreListed rows l.left → AreListed rows l.right → IsLutCut l.k rows node l.chosen → AreCandidates l.k rows node (leaves_of l.cuts.items)
