use Rattle.std.proofs.Common.{◌≡◌, ◌≤◌, ℕ, ◌+◌, drop, get_or}
use Rattle.syn_rows.specs.References.{refs_by_literals}
use Rattle.syn_graph.proofs.references.count_literals.Given as goal

abbrev pub invariant-loop-lit : goal.invariant-loop-lit
invariant-loop-lit l = record {
  few : (m : ℕ) → get_or l.counts m 0 ≤ get_or l.fn.counts m 0 + l.lit-index;
  refs : (m : ℕ) → get_or l.counts m 0 + refs_by_literals m (drop l.lit-index l.lits) ≡ get_or l.fn.counts m 0 + refs_by_literals m l.lits;
}
