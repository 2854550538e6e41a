use Rattle.std.proofs.Common.{◌≡◌, []}
use Rattle.syn_words.specs.Scripts.{said_after}
use Rattle.syn_words.proofs.commands_of.Given as goal

abbrev pub invariant-loop-phrase : goal.invariant-loop-phrase
invariant-loop-phrase l = said_after l.commands.items l.phrase-iterator ≡ said_after [] l.fn.phrases
