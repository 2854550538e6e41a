use Rattle.std.proofs.Common.{◌≡◌, ◌+◌, ◌≤◌, ◌++◌, [], drop, length, map, true}
use Rattle.std.specs.List.{list_all}
use Rattle.syn_netlist.specs.Numbers.{Grows}
use Rattle.syn_models.specs.Called.{actuals_below}
use Rattle.syn_models.specs.FlatFaults.{first_again}
use Rattle.syn_models.specs.Kept.{bind_in}
use Rattle.syn_reader.specs.Marking.{Same, with_words}
use Rattle.syn_reader.specs.Binds.{actual_in_line, are_bind_words, bind_in_line, formal_in_line}
use Rattle.syn_reader.specs.Gathers.{forbids_in}
use Rattle.syn_reader.proofs.model_words.Gathering.add_binds.Given as goal

abbrev pub invariant-loop-bind : goal.invariant-loop-bind
invariant-loop-bind l = record {
  binds : map (bind_in l.self.signals.names) l.made.items ++ map bind_in_line (drop l.bind-index l.binds) ≡ map bind_in_line l.binds;
  below : actuals_below (length l.self.signals.names) l.made.items ≡ true;
  marked : length l.self.signals.marks.items ≡ length l.self.signals.names;
  grows : Grows l.fn.self.signals.names l.self.signals.names;
  names : with_words l.self.signals.names (map actual_in_line (drop l.bind-index l.binds)) ≡ with_words l.fn.self.signals.names (map actual_in_line l.binds);
  count : length l.self.signals.names + length (drop l.bind-index l.binds) ≤ length l.fn.self.signals.names + length l.binds;
  same : Same (forbids_in l.fn.self) (forbids_in l.self);
  kept : (l.self.statements ≡ l.fn.self.statements) × (l.self.words ≡ l.fn.self.words);
  once : first_again l.formals (map formal_in_line (drop l.bind-index l.binds)) ≡ first_again [] (map formal_in_line l.binds);
  few : length l.formals ≤ l.bind-index;
  words : list_all are_bind_words (drop l.bind-index l.binds) ≡ true;
}
