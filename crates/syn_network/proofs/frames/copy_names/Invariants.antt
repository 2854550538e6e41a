use Rattle.std.proofs.Common.{◌≡◌, take}
use Rattle.syn_network.proofs.frames.copy_names.Given as goal

abbrev pub invariant-loop-i : goal.invariant-loop-i
invariant-loop-i l = l.copy ≡ take l.i l.names
