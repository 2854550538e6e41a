use Rattle.std.proofs.Common.{◌≡◌, ℕ, ◌+◌, ◌<◌, length, slice_index_or}
use Rattle.syn_rows.specs.declared.Lit.{Lit}
use Rattle.syn_rows.specs.Rows.{node_of}
use Rattle.test_values.proofs.parities.literals.Given as goal

abbrev pub invariant-loop-place : goal.invariant-loop-place
invariant-loop-place l = record {
  count : length l.literals.items ≡ l.place;
  plain : (j : ℕ) → (d : Lit) → j < length l.literals.items → node_of (slice_index_or l.literals.items j d) ≡ 7 + j;
}
