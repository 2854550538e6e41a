use Rattle.std.proofs.Common.{◌≡◌, ℕ, ◌+◌, ◌≤◌, length}
use Rattle.std.specs.List.{sum_by}
use Rattle.syn_decide.specs.Words.{IsMade, IsStill, unmade}
use Rattle.syn_decide.proofs.decisions.Cone.sweep.Given as goal

abbrev pub invariant-loop-place : goal.invariant-loop-place
invariant-loop-place l = record {
  within : l.place ≤ length l.self.inner.now;
  count : length l.words ≡ length l.self.inner.now;
  fewer : sum_by unmade l.words + l.made ≡ sum_by unmade l.fn.words;
  made : (steps : ℕ) → IsMade l.self steps l.fn.words → IsMade l.self (steps + l.made) l.words;
  still : l.made ≡ 0 → IsStill l.self l.words l.place;
}

abbrev pub decreases-loop-place : goal.decreases-loop-place
decreases-loop-place l = l.place
