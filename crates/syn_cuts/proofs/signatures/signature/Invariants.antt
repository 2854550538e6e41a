use Rattle.std.proofs.Common.{◌≡◌, drop}
use Rattle.syn_cuts.specs.Signatures.{signature, signature_with}
use Rattle.syn_cuts.proofs.signatures.signature.Given as goal

abbrev pub invariant-loop-leaf : goal.invariant-loop-leaf
invariant-loop-leaf l = signature_with l.bits (drop l.leaf-index l.leaves) ≡ signature l.leaves
