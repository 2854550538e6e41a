use Rattle.std.proofs.Common.{sym, subst}
use Rattle.syn_cut_functions.specs.CutTruth.{AreCarried}
use Rattle.syn_cut_functions.specs.Cuts.{cuts_of}
use Rattle.syn_cut_functions.proofs.levels.find.Goals as goal

pub numbers_at-requires-clause-carried : goal.numbers_at-requires-clause-carried
numbers_at-requires-clause-carried c =
    let rows = c.args.graph.now.rows in
    subst (AreCarried rows c.args.node (cuts_of rows c.args.node)) (sym c.as_slice.ensures.value) c.in_ok-carried.ensures.carried
