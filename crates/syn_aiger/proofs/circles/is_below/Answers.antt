use Rattle.syn_aiger.proofs.Ordering.{below_none, below_some}
use Rattle.syn_aiger.proofs.circles.is_below.Goals as goal

pub returns-in-Some : goal.returns-in-Some
returns-in-Some c front more e long = below_some _ front more _ c.in-Some.place c.args.bound c.in-Some.ensures e long

pub returns-in-None : goal.returns-in-None
returns-in-None c front more e long = below_none _ front more _ c.in-None.ensures e
