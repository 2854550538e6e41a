use Rattle.std.proofs.Common.{◌≡◌, drop}
use Rattle.syn_decide.specs.Dying.{first_dying}
use Rattle.syn_decide.specs.Walk.{nodes_of}
use Rattle.syn_decide.proofs.mffc.first_dying.Given as goal

abbrev pub invariant-loop-i : goal.invariant-loop-i
invariant-loop-i l = first_dying (nodes_of l.hits) l.dying (drop l.i l.rows) ≡ first_dying (nodes_of l.hits) l.dying l.rows
