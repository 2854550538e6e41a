use Rattle.std.proofs.Common.{◌≡◌, ℕ, ◌<◌, ◌%◌, ◌^◌}
use Rattle.syn_npn.specs.Images.{read_at, value_at}
use Rattle.syn_npn.specs.Permutations.{permutation_at}
use Rattle.syn_npn.proofs.walk.flipped.Given as goal

abbrev pub invariant-loop-variable : goal.invariant-loop-variable
invariant-loop-variable l = record {
  small : l.table < 2 ^ 16;
  values : (m : ℕ) → m < 16 → value_at l.table m ≡ value_at l.function (read_at (permutation_at 0) (l.flips % 2 ^ l.variable) m);
}
