use Rattle.std.proofs.Common.{◌≡◌, length}
use Rattle.syn_seq.proofs.guesses.keys_of.Given as goal

abbrev pub invariant-loop-latch : goal.invariant-loop-latch
invariant-loop-latch l = length l.keys.items ≡ l.latch-index
