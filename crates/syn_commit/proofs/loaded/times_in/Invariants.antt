use Rattle.std.proofs.Common.{◌≡◌, ◌+◌, ◌≤◌, drop}
use Rattle.syn_rows.specs.References.{times}
use Rattle.syn_commit.proofs.loaded.times_in.Given as goal

abbrev pub invariant-loop-pin : goal.invariant-loop-pin
invariant-loop-pin l = record {
  sum : l.sum + times l.node (drop l.pin-index l.pins) ≡ times l.node l.pins;
  few : l.sum ≤ l.pin-index;
}
