use Rattle.std.proofs.Common.{◌≡◌, string_bytes, map, take}
use Rattle.syn_words.specs.Quotes.{meant}
use Rattle.syn_words.proofs.names.FileName.of.Given as goal

abbrev pub invariant-loop-byte : goal.invariant-loop-byte
invariant-loop-byte l = string_bytes l.text ≡ map meant (take l.byte-index l.bytes)
