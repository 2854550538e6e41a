use Rattle.std.proofs.Common.{◌≡◌, ℕ, ◌<◌, ◌≤◌, true}
use Rattle.syn_rows.specs.Values.{value_in}
use Rattle.syn_absorb.proofs.reach.all_marked.Given as goal

abbrev pub invariant-loop-n : goal.invariant-loop-n
invariant-loop-n l = (m : ℕ) → l.first ≤ m → m < l.n → value_in l.marks m ≡ true
