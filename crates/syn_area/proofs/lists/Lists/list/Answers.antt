use Rattle.std.proofs.Common.{sym, subst}
use Rattle.syn_area.specs.Kept.{AreListed}
use Rattle.syn_area.proofs.Visiting.{alone_kept}
use Rattle.syn_area.proofs.lists.Lists.list.Goals as goal

pub returns : goal.returns
returns c = λ rows all kept.
    subst (AreListed rows) (sym c.set_span.ensures) (c.in_ok-push.ensures rows (c.in_ok-push_all.ensures rows all kept) (alone_kept rows c.args.node c.requires))
