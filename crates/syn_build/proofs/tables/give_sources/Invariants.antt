use Rattle.std.proofs.Common.{◌≡◌, ℕ, ◌<◌, ◌≤◌, All, get_or, length}
use Rattle.syn_rows.specs.Rows.{node_of}
use Rattle.syn_network.specs.NamedGraphs.{source_lit}
use Rattle.syn_hashed.specs.Hashed.{lit_at}
use Rattle.syn_build.proofs.tables.give_sources.Given as goal

abbrev pub invariant-loop-i : goal.invariant-loop-i
invariant-loop-i l = record {
  count : length l.literals ≡ length l.fn.literals;
  there : All (λ lit. node_of lit ≤ length l.numbers) l.literals;
  own : (k : ℕ) → k < l.i → lit_at l.literals (get_or l.numbers k 0) ≡ source_lit k;
}
