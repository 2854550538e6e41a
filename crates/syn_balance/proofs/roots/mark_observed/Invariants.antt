use Rattle.std.proofs.Common.{◌≡◌, ◌<◌, ◌⊎◌, ℕ, true, length, get_or}
use Rattle.syn_rows.specs.declared.Lit.{Lit}
use Rattle.syn_rows.specs.Rows.{node_of}
use Rattle.syn_balance.specs.Roots.{mark_at, IsObserved}
use Rattle.syn_balance.proofs.roots.mark_observed.Given as goal

abbrev pub invariant-loop-lit : goal.invariant-loop-lit
invariant-loop-lit l = record {
  size : length l.marks ≡ length l.initial.marks;
  kept : (m : ℕ) → mark_at l.initial.marks m ≡ true → mark_at l.marks m ≡ true;
  all : (k : ℕ) (d : Lit) → k < l.lit-index → k < length l.observed → mark_at l.marks (node_of (get_or l.observed k d)) ≡ true;
  only : (m : ℕ) → mark_at l.marks m ≡ true → (mark_at l.initial.marks m ≡ true) ⊎ IsObserved l.observed m;
}
