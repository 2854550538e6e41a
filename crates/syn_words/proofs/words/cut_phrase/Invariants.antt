use Rattle.std.proofs.Common.{◌≡◌, ◌+◌, ◌<◌, ◌^◌, length}
use Rattle.syn_words.specs.Phrases.{phrases_at, pieces}
use Rattle.syn_words.proofs.words.cut_phrase.Given as goal

abbrev pub invariant-loop-rest : goal.invariant-loop-rest
invariant-loop-rest l = record {
  rest : phrases_at l.at (pieces l.rest) ≡ phrases_at l.start (pieces l.text);
  sizes : l.at + length l.rest < 2 ^ 32;
}

abbrev pub decreases-loop-rest : goal.decreases-loop-rest
decreases-loop-rest l = length l.rest
