use Rattle.std.proofs.Common.{◌≡◌, ◌+◌, ◌≤◌, ◌∷◌}
use Rattle.arrayvec.specs.ArrayVec.{array_vec_len}
use Rattle.syn_decide.specs.Dying.{AreLeft, dying_after, dying_of}
use Rattle.syn_decide.specs.Walk.{nodes_of}
use Rattle.syn_decide.proofs.mffc.dying_with.Given as goal

abbrev pub invariant-loop-steps : goal.invariant-loop-steps
invariant-loop-steps g l = record {
  rest : dying_after l.steps (nodes_of l.hits) l.rows l.dying.items ≡ dying_of (nodes_of l.hits) (l.fn.root ∷ l.rows);
  few : array_vec_len l.dying + l.steps ≤ g.row.ROWS;
  left : AreLeft l.rows l.dying.items l.left.items;
}

abbrev pub decreases-loop-steps : goal.decreases-loop-steps
decreases-loop-steps g l = l.steps
