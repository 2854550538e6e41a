use Rattle.std.proofs.Common.{◌≡◌, length}
use Rattle.syn_words.specs.Forms.{from_the_name, given_from}
use Rattle.syn_words.proofs.word_reader.given_by.Given as goal

abbrev pub invariant-loop-word : goal.invariant-loop-word
invariant-loop-word l = given_from l.form l.end l.progress l.further ≡ given_from l.form l.end from_the_name l.fn.further

abbrev pub decreases-loop-word : goal.decreases-loop-word
decreases-loop-word l = length l.further
