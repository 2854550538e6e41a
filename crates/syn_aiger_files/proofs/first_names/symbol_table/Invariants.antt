use Rattle.std.proofs.Common.{◌≡◌, ◌<◌, ℕ, drop, find, length, slice_index}
use Rattle.syn_aiger_files.specs.Symbols.{is_at}
use Rattle.syn_aiger_files.specs.FirstNames.{symbol_by}
use Rattle.syn_aiger_files.proofs.first_names.symbol_table.Given as goal

abbrev pub invariant-loop-k : goal.invariant-loop-k
invariant-loop-k l = record {
  count : length l.table.items ≡ l.count;
  found : (i : ℕ) → i < l.count → symbol_by l.symbols (slice_index l.table.items i) ≡ find (is_at l.place i) (drop l.k l.symbols);
}
