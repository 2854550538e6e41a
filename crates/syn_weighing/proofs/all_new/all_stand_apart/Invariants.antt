use Rattle.std.proofs.Common.{ℕ, ◌<◌, take, get_or}
use Rattle.syn_plan.specs.declared.PLit.{PLit}
use Rattle.syn_weighing.specs.AllNew.{StandsApart, first_of}
use Rattle.syn_weighing.proofs.all_new.all_stand_apart.Given as goal

abbrev pub invariant-loop-i : goal.invariant-loop-i
invariant-loop-i l = (j : ℕ) (gate : PLit × PLit) → j < l.i → StandsApart l.named l.base (first_of l.base l.firsts) (take j l.gates) (get_or l.gates j gate)
