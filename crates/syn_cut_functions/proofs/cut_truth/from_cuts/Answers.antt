use Rattle.syn_cut_functions.proofs.CutTruth.{from_cut}
use Rattle.syn_cut_functions.proofs.cut_truth.from_cuts.Goals as goal

pub returns-in-Some : goal.returns-in-Some
returns-in-Some c = λ rows order are.
    c.in-Some.ensures rows order
    (rw c.as_slice.ensures.value (from_cut rows c.args.node c.args.cuts.now c.args.known.now c.loop-i.i c.index-cuts-i.result _ are c.loop-i-test.true c.if-i-cuts.true c.index-cuts-i.is))
