use Rattle.std.proofs.Common.{ℕ, Bool}
use Rattle.syn_rows.specs.Values.{Fits}
use Rattle.syn_sat.specs.Holding.{Holds}
use Rattle.syn_fraig.proofs.questions.load_nearest.Given as goal

abbrev pub invariant-loop-place : goal.invariant-loop-place
invariant-loop-place l = (v : ℕ → Bool) → Fits l.rows v → Holds l.fn.solver.clauses v → Holds l.solver.clauses v
