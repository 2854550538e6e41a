use Rattle.std.proofs.Common.{subst, sym}
use Rattle.syn_cones.specs.CutTruth.{IsCutFunction}
use Rattle.syn_cut_functions.specs.CutTruth.{AreCarried}
use Rattle.syn_cut_functions.specs.Cuts.{cuts_of}
use Rattle.syn_cut_functions.proofs.cut_truth.from_fan_ins.Goals as goal

pub returns : goal.returns
returns c = λ rows order row inner listed left right.
    let leaves = c.args.leaves.now in
    let known = c.args.known in
    c.of_and.ensures rows leaves c.requires.few order row inner
    (subst (λ m. IsCutFunction rows leaves m c.in_ok-left.left) c.node.ensures
    (c.in_ok-left.ensures rows order listed (subst (λ m. AreCarried rows m (cuts_of rows m) known.left.now) (sym c.node.ensures) left)))
    (subst (λ m. IsCutFunction rows leaves m c.in_ok-right.right) c.node-2.ensures
    (c.in_ok-right.ensures rows order listed (subst (λ m. AreCarried rows m (cuts_of rows m) known.right.now) (sym c.node-2.ensures) right)))
