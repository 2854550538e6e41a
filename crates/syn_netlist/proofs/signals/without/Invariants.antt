use Rattle.std.proofs.Common.{◌≡◌, ◌++◌, drop}
use Rattle.syn_lists.specs.Numbers.{without_numbers}
use Rattle.syn_netlist.proofs.signals.without.Given as goal

abbrev pub invariant-loop-n : goal.invariant-loop-n
invariant-loop-n l = l.found.items ++ without_numbers l.others (drop l.n-index l.numbers) ≡ without_numbers l.others l.numbers
