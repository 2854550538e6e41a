use Rattle.std.proofs.Common.{◌≡◌, ℕ, ◌<◌, nat_lt, length}
use Rattle.syn_rows.specs.Values.{value_in}
use Rattle.syn_hashed.specs.Pairs.{number_at}
use Rattle.syn_absorb.proofs.marks.less_at.Given as goal

abbrev pub invariant-loop-i : goal.invariant-loop-i
invariant-loop-i l = record {
  count : length l.less.items ≡ l.i;
  each : (n : ℕ) → n < l.i → value_in l.less.items n ≡ nat_lt (number_at l.numbers n) (number_at l.others n);
}
