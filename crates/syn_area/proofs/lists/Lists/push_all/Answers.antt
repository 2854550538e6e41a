use Rattle.syn_area.proofs.Visiting.{kept_at}
use Rattle.syn_area.proofs.lists.Lists.push_all.Goals as goal

pub loop-cut-preserved : goal.loop-cut-preserved
loop-cut-preserved c = λ rows all kept.
    c.in_ok-push.ensures rows (c.loop-cut.invariant rows all kept)
    (kept_at rows c.args.node c.args.cuts.now c.loop-cut.cut-index c.cut-item.result c.as_slice.result.now kept c.loop-cut-test.true c.cut-item.is c.as_slice.ensures.value)
