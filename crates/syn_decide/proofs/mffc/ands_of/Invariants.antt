use Rattle.std.proofs.Common.{◌≡◌, ◌+◌, ◌≤◌, drop}
use Rattle.syn_decide.specs.Dying.{ands_of}
use Rattle.syn_decide.proofs.mffc.ands_of.Given as goal

abbrev pub invariant-loop-r : goal.invariant-loop-r
invariant-loop-r l = record {
  rest : l.sum + ands_of (drop l.r-index l.rows) ≡ ands_of l.rows;
  few : l.sum ≤ l.r-index;
}
