use Rattle.std.proofs.Common.{◌≡◌, ◌++◌, map, drop}
use Rattle.syn_words.specs.Quotes.{meant}
use Rattle.syn_words.proofs.texts.push_meant.Given as goal

abbrev pub invariant-loop-byte : goal.invariant-loop-byte
invariant-loop-byte l = l.line.items ++ map meant (drop l.byte-index l.word) ≡ l.initial.line.items ++ map meant l.word
