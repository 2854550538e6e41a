use Rattle.std.proofs.Common.{All, flat_map, take}
use Rattle.syn_cuts.specs.Leaves.{leaves_of}
use Rattle.syn_proposals.specs.Closing.{SavesNothing}
use Rattle.syn_rewrite.specs.Rewriting.{cut_proposals}
use Rattle.syn_rewrite.proofs.proposer.CutPlansProposer.first_saving.Given as goal

abbrev pub invariant-loop-i : goal.invariant-loop-i
invariant-loop-i l = All (SavesNothing l.graph.rows l.graph.observed) (flat_map (cut_proposals l.graph.rows l.node) (take l.i (leaves_of l.cuts)))
