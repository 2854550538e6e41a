use Rattle.std.proofs.Common.{◌≡◌, ℕ, get_or}
use Rattle.syn_rows.specs.Rows.{row_at}
use Rattle.syn_rows.specs.References.{refs, sum_below}
use Rattle.syn_graph.proofs.references.count_rows.Given as goal

abbrev pub invariant-loop-row : goal.invariant-loop-row
invariant-loop-row l = (m : ℕ) → get_or l.counts m 0 ≡ sum_below l.row-index (λ n. refs m (row_at l.rows n))
