use Rattle.std.proofs.Common.{◌≡◌, ℕ, ◌+◌, ◌<◌, true, length, get_or}
use Rattle.syn_plan.specs.declared.PLit.{PLit}
use Rattle.syn_weighing.specs.AllNew.{first_of, same_gate}
use Rattle.syn_weighing.proofs.all_new.is_said_of_each.Given as goal

abbrev pub invariant-loop-i : goal.invariant-loop-i
invariant-loop-i l = (g : ℕ) (d : PLit × PLit) → g < l.i → same_gate (first_of l.base l.firsts) l.gate (get_or l.before g d) ≡ true → first_of l.base l.firsts (l.base + g) ≡ first_of l.base l.firsts (l.base + length l.before)
