use Rattle.std.proofs.Common.{◌≡◌, drop}
use Rattle.syn_decide.specs.Words.{word_for}
use Rattle.syn_decide.proofs.decisions.Cone.word_of_inner.Given as goal

abbrev pub invariant-loop-place : goal.invariant-loop-place
invariant-loop-place l = word_for (drop l.place l.self.inner.now) (drop l.place l.words) l.node ≡ word_for l.self.inner.now l.words l.node
