use Rattle.std.proofs.Common.{◌≡◌, ℕ, ◌<◌, false, length}
use Rattle.syn_hashed.specs.Hashed.{lit_at}
use Rattle.syn_absorb.specs.Rebuilding.{signed_lit}
use Rattle.syn_absorb.proofs.rebuild.source_literals.Given as goal

abbrev pub invariant-loop-n : goal.invariant-loop-n
invariant-loop-n l = record {
  long : length l.lits.items ≡ l.n;
  own : (m : ℕ) → m < l.n → lit_at l.lits.items m ≡ signed_lit m false;
}
