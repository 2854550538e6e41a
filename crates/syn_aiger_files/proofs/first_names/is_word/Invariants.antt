use Rattle.std.proofs.Common.{◌≡◌, drop}
use Rattle.std.specs.List.{list_all}
use Rattle.syn_netlist.specs.Words.{is_word_byte}
use Rattle.syn_aiger_files.proofs.first_names.is_word.Given as goal

abbrev pub invariant-loop-b : goal.invariant-loop-b
invariant-loop-b l = list_all is_word_byte (drop l.b-index l.bytes) ≡ list_all is_word_byte l.bytes
