use Rattle.std.proofs.Common.{◌≡◌, take}
use Rattle.syn_truth.specs.Truth.{AtEach, value_of}
use Rattle.syn_absorb.specs.Flips.{xor_list}
use Rattle.syn_absorb.proofs.tables.flip_variables.Given as goal

abbrev pub invariant-loop-flip : goal.invariant-loop-flip
invariant-loop-flip l = record {
  place : l.i ≡ l.flip-index;
  vars : l.flipped.vars ≡ l.fn.truth.vars;
  values : AtEach l.fn.truth.vars (λ xs. value_of l.flipped xs ≡ value_of l.fn.truth (xor_list (take l.flip-index l.flips) xs));
}
