use Rattle.std.proofs.Common.{◌≡◌, ◌≤◌, ◌-◌, List, [], length}
use Rattle.syn_aiger_files.specs.Files.{Symbol}
use Rattle.syn_aiger_files.specs.Gathered.{behind_symbols}
use Rattle.syn_aiger_files.specs.Seen.{AreGiven}
use Rattle.syn_aiger_files.specs.Symbols.{symbols_of}
use Rattle.syn_aiger_files.specs.Texts.{lines_at}
use Rattle.syn_aiger_files.proofs.symbols.read_symbols.Given as goal

abbrev pub invariant-loop-line : goal.invariant-loop-line
invariant-loop-line l = record {
  within : length l.rest ≤ l.total;
  left : (ss : List Symbol) × (AreGiven l.given ss × (behind_symbols l.symbols.items (symbols_of l.h ss (lines_at (l.total - length l.rest) l.rest)) ≡ symbols_of l.h [] (lines_at (l.total - length l.bytes) l.bytes)));
}

abbrev pub decreases-loop-line : goal.decreases-loop-line
decreases-loop-line l = length l.rest
