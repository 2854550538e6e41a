use Rattle.std.proofs.Common.{◌≡◌, ◌+◌, ◌^◌, ◌<◌, ◌≤◌, ◌++◌, ◌||◌, length, List, ℕ, map, true}
use Rattle.syn_lex.specs.Words.{text_of}
use Rattle.syn_netlist.specs.Numbers.{all_below, words_at, Grows}
use Rattle.syn_reader.specs.declared.Kind.{Kind}
use Rattle.syn_reader.specs.Heard.{all_words}
use Rattle.syn_reader.specs.Marking.{by_kind, first_twice, forbidden, forbidden_by, with_words}
use Rattle.syn_reader.proofs.signals.Signals.define_all.Given as goal

abbrev pub invariant-loop-word : goal.invariant-loop-word
invariant-loop-word l = record {
  numbers : words_at l.self.names l.numbers.items ++ map text_of l.word-iterator ≡ map text_of l.fn.words;
  below : all_below (length l.self.names) l.numbers.items ≡ true;
  marked : length l.self.marks.items ≡ length l.self.names;
  grows : Grows l.fn.self.names l.self.names;
  count : length l.self.names + length l.word-iterator ≤ length l.fn.self.names + length l.fn.words;
  once : first_twice (forbidden l.self.names l.self.marks.items) l.kind (map text_of l.word-iterator) ≡ first_twice (forbidden l.fn.self.names l.fn.self.marks.items) l.kind (map text_of l.fn.words);
  adds : (k : Kind) (w : List ℕ) → (forbidden_by (map (by_kind l.kind) (map text_of l.word-iterator)) k w || forbidden l.self.names l.self.marks.items k w) ≡ (forbidden_by (map (by_kind l.kind) (map text_of l.fn.words)) k w || forbidden l.fn.self.names l.fn.self.marks.items k w);
  words : all_words l.word-iterator ≡ true;
  few : length l.fn.self.names + length l.fn.words < 2 ^ 32;
  known : with_words l.self.names (map text_of l.word-iterator) ≡ with_words l.fn.self.names (map text_of l.fn.words);
  can : (goal.iterator-loop-word).can_next l.word-iterator;
  ends : (goal.iterator-loop-word).is_finite l.word-iterator;
}
