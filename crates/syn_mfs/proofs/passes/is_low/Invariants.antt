use Rattle.std.proofs.Common.{ℕ, ◌<◌, ◌≤◌, get_or}
use Rattle.syn_mfs.proofs.passes.is_low.Given as goal

abbrev pub invariant-loop-depth : goal.invariant-loop-depth
invariant-loop-depth l = (n : ℕ) → n < l.depth-index → get_or l.depths n 0 ≤ l.most
