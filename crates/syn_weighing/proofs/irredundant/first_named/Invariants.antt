use Rattle.std.proofs.Common.{◌≡◌, ℕ, ◌+◌, ◌<◌, true}
use Rattle.syn_weighing.specs.Irredundant.{is_named}
use Rattle.syn_weighing.proofs.irredundant.first_named.Given as goal

abbrev pub invariant-loop-i : goal.invariant-loop-i
invariant-loop-i l = (j : ℕ) → j < l.i → is_named l.gates l.out (1 + j) ≡ true
