use Rattle.std.proofs.Common.{◌≡◌, ◌+◌, ◌++◌, ◌≤◌, List, length}
use Rattle.syn_aiger.specs.Keeping.{Keeps}
use Rattle.syn_aiger.specs.Naming.{Named, feeds_named, sources_of}
use Rattle.syn_aiger.specs.Values.{source_literals}
use Rattle.syn_aiger.proofs.Feeding.{FeedsLeft}
use Rattle.syn_aiger.proofs.names.name_feeds.Given as goal

abbrev pub invariant-loop-j : goal.invariant-loop-j
invariant-loop-j l = record {
  few : length l.given.names ≤ length l.initial.given.names + l.j;
  sources : length (source_literals l.file.aig) ≤ length l.given.numbers.items;
  keeps : (known more : List Named) → Keeps l.initial.given known → known ≡ sources_of l.file.aig ++ more → FeedsLeft l.given (sources_of l.file.aig) l.j l.file.aig.latches (known ++ feeds_named (sources_of l.file.aig) 0 l.file.aig.latches known);
}
