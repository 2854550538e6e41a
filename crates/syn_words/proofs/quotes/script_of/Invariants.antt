use Rattle.std.proofs.Common.{◌≡◌, drop, length}
use Rattle.syn_words.specs.Quotes.{script_after, script_of}
use Rattle.syn_words.proofs.quotes.script_of.Given as goal

abbrev pub invariant-loop-byte : goal.invariant-loop-byte
invariant-loop-byte l = record {
  script : script_after l.script.items l.place (drop l.byte-index l.text) ≡ script_of l.text;
  count : length l.script.items ≡ l.byte-index;
}
