use Rattle.std.proofs.Common.{◌≡◌, ◌++◌, map, drop}
use Rattle.arrayvec.specs.ArrayVec.{array_vec_len}
use Rattle.syn_hashed.specs.Hashed.{lit_at}
use Rattle.syn_absorb.specs.Rebuilding.{is_complement}
use Rattle.syn_absorb.proofs.rebuild.signs_of.Given as goal

abbrev pub invariant-loop-signal : goal.invariant-loop-signal
invariant-loop-signal l = record {
  left : l.signs.items ++ map (λ m. is_complement (lit_at l.lits m)) (drop l.signal-index l.signals) ≡ map (λ m. is_complement (lit_at l.lits m)) l.signals;
  count : array_vec_len l.signs ≡ l.signal-index;
}
