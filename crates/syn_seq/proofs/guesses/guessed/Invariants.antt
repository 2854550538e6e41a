use Rattle.std.proofs.Common.{◌≡◌, length}
use Rattle.syn_seq.proofs.guesses.guessed.Given as goal

abbrev pub invariant-loop-j : goal.invariant-loop-j
invariant-loop-j l = length l.fates.items ≡ l.j
