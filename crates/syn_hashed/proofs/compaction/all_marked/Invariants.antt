use Rattle.std.proofs.Common.{◌≡◌, ◌<◌, ℕ, true}
use Rattle.syn_rows.specs.Values.{value_in}
use Rattle.syn_hashed.proofs.compaction.all_marked.Given as goal

abbrev pub invariant-loop-n : goal.invariant-loop-n
invariant-loop-n l = (n : ℕ) → l.count < n → n < l.n → value_in l.marks n ≡ true
