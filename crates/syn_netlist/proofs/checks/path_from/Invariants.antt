use Rattle.std.proofs.Common.{◌≡◌, drop}
use Rattle.syn_netlist.specs.Walk.{from_number}
use Rattle.syn_netlist.proofs.checks.path_from.Given as goal

abbrev pub invariant-loop-i : goal.invariant-loop-i
invariant-loop-i l = from_number l.table (drop l.i l.path) ≡ from_number l.table l.path
