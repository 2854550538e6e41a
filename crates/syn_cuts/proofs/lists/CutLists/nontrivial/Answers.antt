use Rattle.std.proofs.Common.{take, ap, ◌∙◌}
use Rattle.syn_cuts.specs.Leaves.{leaves_of}
use Rattle.syn_cuts.specs.Lists.{list_at}
use Rattle.syn_cuts.proofs.Putting.{front_leaves}
use Rattle.syn_cuts.proofs.lists.CutLists.nontrivial.Goals as goal

pub returns : goal.returns
returns c =
    ap leaves_of (c.split_at.ensures.front ∙ ap (λ n. take n c.of-cuts.result.now) c.saturating_sub.ensures)
    ∙ front_leaves c.of-cuts.result.now (list_at c.args.self.now c.args.node) c.of-cuts.ensures
