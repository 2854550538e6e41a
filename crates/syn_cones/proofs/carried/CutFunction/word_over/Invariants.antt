use Rattle.syn_cones.specs.CutTruth.{IsPutTogether}
use Rattle.syn_cones.proofs.carried.CutFunction.word_over.Given as goal

abbrev pub invariant-loop-i : goal.invariant-loop-i
invariant-loop-i l = IsPutTogether l.self l.root l.leaves l.more l.i l.part
