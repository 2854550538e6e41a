use Rattle.std.proofs.Common.{◌≡◌, drop}
use Rattle.syn_lists.specs.Numbers.{has_number}
use Rattle.syn_absorb.proofs.narrow.place_from.Given as goal

abbrev pub invariant-loop-j : goal.invariant-loop-j
invariant-loop-j l = has_number (drop l.j l.inputs) l.signal ≡ has_number (drop l.from l.inputs) l.signal
