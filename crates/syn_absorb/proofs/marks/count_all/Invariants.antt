use Rattle.std.proofs.Common.{◌≡◌, ◌≤◌, ℕ, length, take, count_by}
use Rattle.syn_hashed.specs.Pairs.{number_at}
use Rattle.syn_absorb.specs.Flips.{is_opposite, is_plain}
use Rattle.syn_absorb.proofs.marks.count_all.Given as goal

abbrev pub invariant-loop-lit : goal.invariant-loop-lit
invariant-loop-lit l = record {
  long : length l.plain ≡ length l.initial.plain;
  long_opposite : length l.opposite ≡ length l.initial.plain;
  few : (n : ℕ) → number_at l.plain n ≤ length l.lits;
  few_opposite : (n : ℕ) → number_at l.opposite n ≤ length l.lits;
  plain : (n : ℕ) → number_at l.plain n ≡ count_by (is_plain n) (take l.lit-index l.lits);
  opposite : (n : ℕ) → number_at l.opposite n ≡ count_by (is_opposite n) (take l.lit-index l.lits);
}
