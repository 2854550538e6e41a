use Rattle.std.proofs.Common.{◌≡◌, ◌+◌, ◌≤◌, ℕ, length}
use Rattle.std.specs.List.{sum_by}
use Rattle.syn_decide.specs.Words.{IsMade, unmade}
use Rattle.syn_decide.proofs.decisions.Cone.root_word.Given as goal

abbrev pub invariant-loop-word : goal.invariant-loop-word
invariant-loop-word l = record {
  count : length l.words ≡ length l.self.inner.now;
  made : (steps : ℕ) × (steps + sum_by unmade l.words ≤ length l.self.inner.now) × IsMade l.self steps l.words;
}

abbrev pub decreases-loop-word : goal.decreases-loop-word
decreases-loop-word l = sum_by unmade l.words
