use Rattle.std.proofs.Common.{◌≡◌, take}
use Rattle.syn_models.proofs.instance_calls.copied_names.Given as goal

abbrev pub invariant-loop-i : goal.invariant-loop-i
invariant-loop-i l = l.copies ≡ take l.i l.names
