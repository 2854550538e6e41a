use Rattle.std.proofs.Common.{◌≡◌, ◌-◌, ◌<◌, ◌≤◌, false, [], length, get_or}
use Rattle.syn_cuts.specs.Cuts.{comes_before}
use Rattle.syn_cuts.specs.Leaves.{leaves_of}
use Rattle.syn_cuts.proofs.Putting.{IsBehind}
use Rattle.syn_cuts.proofs.unions.place.Given as goal

abbrev pub invariant-loop-low : goal.invariant-loop-low
invariant-loop-low l = record {
  between : l.low ≤ l.high;
  within : l.high ≤ length l.cuts;
  behind : IsBehind l.cut (leaves_of l.cuts) l.low;
  ahead : l.high < length l.cuts → comes_before (get_or (leaves_of l.cuts) l.high []) l.cut ≡ false;
}

abbrev pub decreases-loop-low : goal.decreases-loop-low
decreases-loop-low l = l.high - l.low
