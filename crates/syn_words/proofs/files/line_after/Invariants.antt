use Rattle.std.proofs.Common.{◌≡◌, ◌+◌, ◌≤◌, drop}
use Rattle.syn_words.specs.Files.{line_after}
use Rattle.syn_words.proofs.files.line_after.Given as goal

abbrev pub invariant-loop-byte : goal.invariant-loop-byte
invariant-loop-byte l = record {
  line : line_after l.line (drop l.byte-index l.bytes) ≡ line_after 1 l.bytes;
  few : l.line ≤ l.byte-index + 1;
}
