use Rattle.std.proofs.Common.{◌≡◌, ◌++◌, drop, length}
use Rattle.syn_decide.specs.Dying.{counted_of}
use Rattle.syn_decide.proofs.mffc.counted_of.Given as goal

abbrev pub invariant-loop-i : goal.invariant-loop-i
invariant-loop-i l = record {
  rest : l.rows.items ++ counted_of (drop l.i l.inner) (drop l.i l.counts) ≡ counted_of l.inner l.counts;
  len : length l.rows.items ≡ l.i;
}
