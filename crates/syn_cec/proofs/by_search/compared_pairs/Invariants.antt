use Rattle.std.proofs.Common.{◌≡◌, ℕ, ◌+◌, ◌<◌, ◌≤◌, get_or}
use Rattle.syn_rows.specs.Joining.{constant}
use Rattle.syn_fraig.specs.Merging.{SameBy}
use Rattle.syn_fraig.specs.Sweeping.{AreTrueBy}
use Rattle.syn_cec.proofs.by_search.compared_pairs.Given as goal

abbrev pub invariant-loop-place : goal.invariant-loop-place
invariant-loop-place l = record {
  clauses : AreTrueBy l.rows l.solver.clauses;
  open_few : l.open ≤ l.place;
  same : l.open ≡ 0 → (j : ℕ) → j < l.place → SameBy l.rows (get_or l.lits j constant) (get_or l.lits (l.count + j) constant);
}
