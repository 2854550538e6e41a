use Rattle.std.proofs.Common.{sym, subst}
use Rattle.syn_area.specs.Kept.{AreListed}
use Rattle.syn_area.proofs.lists.Lists.of.Goals as goal

pub returns : goal.returns
returns c = λ rows all. c.part.ensures rows (subst (AreListed rows) (sym c.as_slice-2.ensures.value) all)
