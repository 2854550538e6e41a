use Rattle.std.proofs.Common.{◌≡◌}
use Rattle.arrayvec.specs.ArrayVec.{array_vec_len}
use Rattle.syn_cuts.specs.Leaves.{leaves_of}
use Rattle.syn_cuts.specs.Signatures.{AreSignatures}
use Rattle.syn_cuts.proofs.signatures.signatures_of.Given as goal

abbrev pub invariant-loop-cut : goal.invariant-loop-cut
invariant-loop-cut l = record {
  signed : AreSignatures l.words.items (leaves_of l.cuts);
  count : array_vec_len l.words ≡ l.cut-index;
}
