use Rattle.std.proofs.Common.{◌≡◌, ◌++◌, map, drop}
use Rattle.arrayvec.specs.ArrayVec.{array_vec_len}
use Rattle.syn_library.specs.Fitting.{fitted_gate}
use Rattle.syn_library.proofs.fitted_gates.Given as goal

abbrev pub invariant-loop-a : goal.invariant-loop-a
invariant-loop-a l = record {
  count : array_vec_len l.gates ≡ l.a-index;
  gates : l.gates.items ++ map (fitted_gate l.transform.perm l.transform.flips) (drop l.a-index l.plan.gates.items) ≡ map (fitted_gate l.transform.perm l.transform.flips) l.plan.gates.items;
}
