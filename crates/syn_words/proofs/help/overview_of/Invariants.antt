use Rattle.std.proofs.Common.{◌≡◌, [], drop}
use Rattle.syn_words.specs.Help.{overview_of}
use Rattle.syn_words.proofs.help.overview_of.Given as goal

abbrev pub invariant-loop-keyword : goal.invariant-loop-keyword
invariant-loop-keyword l = overview_of l.text.items (drop l.keyword-index l.keywords) ≡ overview_of [] l.keywords
