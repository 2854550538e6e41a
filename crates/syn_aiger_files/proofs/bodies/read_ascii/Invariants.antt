use Rattle.std.proofs.Common.{◌≡◌, ◌≤◌, ◌*◌, ◌+◌, ℕ, List, drop, length, true}
use Rattle.syn_aiger_files.specs.Gathered.{body_by, gathered, lists_of}
use Rattle.syn_aiger_files.specs.Parts.{parts_of, wanted_by}
use Rattle.syn_aiger_files.specs.Seen.{AreSeen}
use Rattle.syn_aiger_files.proofs.bodies.read_ascii.Given as goal

abbrev pub invariant-loop-k : goal.invariant-loop-k
invariant-loop-k l = record {
  within : length l.rest ≤ l.total;
  left : (ls : List ℕ) × (AreSeen l.defined ls × (gathered (lists_of l.body) (parts_of l.total (2 * l.h.variables + 1) ls (drop l.k (wanted_by true l.h)) l.rest) ≡ body_by true l.h l.total l.bytes));
}
