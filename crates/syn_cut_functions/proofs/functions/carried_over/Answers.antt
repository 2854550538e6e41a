use Rattle.std.proofs.Common.{◌≡◌, ◌+◌, get_or, length, sym, ap, ◌∙◌, subst}
use Rattle.std.proofs.lemmas.List.{length_push}
use Rattle.syn_rows.specs.Reach.{is_and}
use Rattle.syn_cones.specs.CutTruth.{IsCutFunction}
use Rattle.syn_cuts.specs.Leaves.{leaves_of}
use Rattle.syn_cuts.specs.Lists.{nontrivial}
use Rattle.syn_cut_functions.specs.CutTruth.{AreCarried}
use Rattle.syn_cut_functions.specs.Cuts.{cuts_of}
use Rattle.syn_cut_functions.proofs.Listed.{leaves_read, within_lists}
use Rattle.syn_cut_functions.proofs.CutTruth.{more_carried}
use Rattle.syn_cut_functions.proofs.Cuts.{leaves_is}
use Rattle.syn_cut_functions.proofs.functions.carried_over.Goals as goal

pub nontrivial-own-requires : goal.nontrivial-own-requires
nontrivial-own-requires c = within_lists c.args.cuts.now c.args.graph.now.rows c.args.node c.requires.cuts c.requires.node

pub over_cut-requires-clause-leaves : goal.over_cut-requires-clause-leaves
over_cut-requires-clause-leaves c =
    let graph = c.args.graph.now in
    leaves_read graph c.args.node c.nontrivial-own.result.now c.loop-i.i c.index-own-i.result c.as_slice-leaves.result.now (ap is_and c.requires.row) (c.nontrivial-own.ensures ∙ ap (λ lists. nontrivial lists c.args.node) c.requires.cuts)
    c.loop-i-test.true c.index-own-i.is c.as_slice-leaves.ensures.value

pub loop-i-preserved : goal.loop-i-preserved
loop-i-preserved c =
    let rows = c.args.graph.now.rows in
    let node = c.args.node in
    let cuts = c.nontrivial-own.result.now in
    let i = c.loop-i.i in
    let cut = c.index-own-i.result in
    let f = c.in_ok-one.one.function in
    let are : leaves_of cuts ≡ cuts_of rows node = c.nontrivial-own.ensures ∙ ap (λ lists. nontrivial lists node) c.requires.cuts in
    let here : IsCutFunction rows cut.items node f = subst (λ ls. IsCutFunction rows ls node f) c.as_slice-leaves.ensures.value c.in_ok-one.ensures in
    record {
      count = ap length c.in_ok-push.ensures.items ∙ length_push c.loop-i.carried.items _ ∙ ap (λ n. n + 1) c.loop-i.invariant.count;
      carried =
          subst (AreCarried rows node (cuts_of rows node)) (sym c.in_ok-push.ensures.items)
          (more_carried rows node (cuts_of rows node) c.loop-i.carried.items _ i cut.items c.loop-i.invariant.count c.loop-i.invariant.carried (leaves_is cuts i cut c.index-own-i.is ∙ ap (λ cs. get_or cs i cut.items) are) here);
    }
