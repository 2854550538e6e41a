use Rattle.std.proofs.Common.{◌≡◌, ◌<◌, ℕ, true}
use Rattle.syn_seq.specs.Code.{is_target}
use Rattle.syn_seq.specs.Rounds.{fate_at}
use Rattle.syn_seq.proofs.checks.are_targets.Given as goal

abbrev pub invariant-loop-j : goal.invariant-loop-j
invariant-loop-j l = (k : ℕ) → k < l.j → is_target l.fates k (fate_at l.fates k) ≡ true
