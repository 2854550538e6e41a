use Rattle.std.proofs.Common.{ℕ, Bool}
use Rattle.syn_rows.specs.Values.{Fits}
use Rattle.syn_sat.specs.Holding.{Holds}
use Rattle.syn_fraig.proofs.questions.load_cones.Given as goal

abbrev pub invariant-loop : goal.invariant-loop
invariant-loop l = (v : ℕ → Bool) → Fits l.rows v → Holds l.fn.solver.clauses v → Holds l.solver.clauses v
