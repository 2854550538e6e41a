use Rattle.std.proofs.Common.{◌≡◌, ◌+◌, ◌++◌, length}
use Rattle.std.specs.Prelude.{vec_capacity, vec_len}
use Rattle.syn_cuts.proofs.parts.push_cuts.Given as goal

abbrev pub invariant-loop-cut : goal.invariant-loop-cut
invariant-loop-cut l = record {
  items : l.cuts.items ≡ l.initial.cuts.items ++ l.yielded;
  len : vec_len l.cuts ≡ vec_len l.initial.cuts + length l.yielded;
  capacity : vec_capacity l.cuts ≡ vec_capacity l.initial.cuts;
}
