use Rattle.std.proofs.Common.{slice_set, ap, ◌∙◌}
use Rattle.syn_cuts.proofs.Filling.{listed_below}
use Rattle.syn_cuts.proofs.node_cuts.fill.Goals as goal

pub returns : goal.returns
returns c =
    let n = c.args.node in
    c.in_ok-set.ensures
    ∙ ap (slice_set c.args.lists.now n) (c.row_unions-kept.ensures n ∙ listed_below c.args.k c.args.rows.now c.args.lists.now n c.requires.order c.requires.node c.requires.below)
