use Rattle.std.proofs.Common.{◌≡◌, drop}
use Rattle.std.specs.List.{list_all}
use Rattle.syn_reader.specs.Shapes.{is_character}
use Rattle.syn_reader.proofs.rows.is_input_part.Given as goal

abbrev pub invariant-loop-byte : goal.invariant-loop-byte
invariant-loop-byte l = list_all is_character (drop l.byte-index l.word) ≡ list_all is_character l.word
