use Rattle.std.proofs.Common.{◌≡◌, ℕ, ◌<◌, get_or}
use Rattle.arrayvec.specs.ArrayVec.{array_vec_len}
use Rattle.syn_decide.specs.declared.decisions.Counted.{Counted}
use Rattle.syn_decide.proofs.mffc.begin_left.Given as goal

abbrev pub invariant-loop-r : goal.invariant-loop-r
invariant-loop-r g l = record {
  len : array_vec_len l.left ≡ l.r-index;
  each : (i : ℕ) (d : Counted) → i < l.r-index → get_or l.left.items i 0 ≡ (get_or l.rows i d).others;
}
