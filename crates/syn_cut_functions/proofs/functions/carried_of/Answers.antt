use Rattle.std.proofs.Common.{sym, subst}
use Rattle.syn_cut_functions.specs.CutTruth.{AreCarried}
use Rattle.syn_cut_functions.specs.Cuts.{cuts_of}
use Rattle.syn_cut_functions.proofs.functions.carried_of.Goals as goal

pub returns-then-node-lists : goal.returns-then-node-lists
returns-then-node-lists c = λ rows have.
    let at = c.node-node.result in
    subst (λ m. AreCarried rows m (cuts_of rows m) c.as_slice.result.now) c.node-node.ensures
    (subst (AreCarried rows at (cuts_of rows at)) (sym c.as_slice.ensures.value) (have at c.index-lists-node.result c.if-node-lists.true))
