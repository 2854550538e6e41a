use Rattle.std.proofs.Common.{◌≡◌, ℕ, Bool, false, drop}
use Rattle.syn_sat.specs.Clauses.{clause_value}
use Rattle.syn_sat.specs.Checking.{Agrees, AreUpTo}
use Rattle.syn_sat.proofs.checking.mark_false.Given as goal

abbrev pub invariant-loop-lit : goal.invariant-loop-lit
invariant-loop-lit l = record {
  agrees : (v : ℕ → Bool) → Agrees v l.initial.stamps l.now → clause_value v l.clause ≡ false → Agrees v l.stamps l.now × (clause_value v (drop l.lit-index l.clause) ≡ false);
  up_to : AreUpTo l.initial.stamps l.now → AreUpTo l.stamps l.now;
}
