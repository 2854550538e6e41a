use Rattle.std.proofs.Common.{sym, subst}
use Rattle.syn_cuts.specs.Lists.{AreListed}
use Rattle.syn_cuts.proofs.Filling.{found_listed}
use Rattle.syn_cuts.proofs.node_cuts.set_all.Goals as goal

pub returns : goal.returns
returns c = subst (AreListed c.args.k c.args.rows.now) (sym c.in_ok-set_found.ensures) (found_listed c.args.k c.args.rows.now c.args.lists.now c.args.found c.requires.lists c.requires.found)
