use Rattle.std.proofs.Common.{◌≡◌, ◌+◌, length, map, true, option_map}
use Rattle.std.specs.List.{list_all}
use Rattle.syn_lex.specs.Words.{text_of}
use Rattle.syn_netlist.specs.Words.{is_word}
use Rattle.syn_reader.specs.Heard.{all_words}
use Rattle.syn_reader.specs.Binds.{are_bind_words, bind_in_line}
use Rattle.syn_reader.specs.Subcircuits.{binds_of, subcircuit_of}
use Rattle.syn_reader.proofs.Binding.{subcircuit_from}
use Rattle.syn_reader.proofs.subcircuits.read_subckt.Given as goal

abbrev pub invariant-loop-word : goal.invariant-loop-word
invariant-loop-word l = record {
  spelled : option_map (subcircuit_from l.model (map bind_in_line l.binds.items)) (binds_of (map text_of l.word-iterator)) ≡ subcircuit_of (map text_of l.fn.words);
  model : is_word l.model ≡ true;
  good : list_all are_bind_words l.binds.items ≡ true;
  count : length l.fn.words ≡ 1 + (length l.binds.items + length l.word-iterator);
  words : all_words l.word-iterator ≡ true;
  can : (goal.iterator-loop-word).can_next l.word-iterator;
  ends : (goal.iterator-loop-word).is_finite l.word-iterator;
}
