use Rattle.std.proofs.Common.{◌≡◌, drop}
use Rattle.syn_models.specs.ReadBack.{behind}
use Rattle.syn_models.proofs.slash_counts.behind_digits.Given as goal

abbrev pub invariant-loop-i : goal.invariant-loop-i
invariant-loop-i l = behind (drop l.i l.word) ≡ behind l.word
