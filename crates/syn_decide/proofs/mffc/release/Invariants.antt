use Rattle.std.proofs.Common.{◌≡◌, ℕ, ◌-◌, ◌<◌, ◌≤◌, get_or, length}
use Rattle.syn_rows.specs.References.{refs}
use Rattle.syn_decide.specs.declared.decisions.Counted.{Counted}
use Rattle.syn_decide.proofs.mffc.release.Given as goal

abbrev pub invariant-loop-i : goal.invariant-loop-i
invariant-loop-i g l = record {
  len : length l.left.items ≡ length l.rows;
  done : (k : ℕ) (d : Counted) → k < l.i → get_or l.left.items k 0 ≡ get_or l.fn.left.items k 0 - refs (get_or l.rows k d).node l.gone.row;
  rest : (k : ℕ) → l.i ≤ k → get_or l.left.items k 0 ≡ get_or l.fn.left.items k 0;
}
