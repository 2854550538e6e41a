use Rattle.std.proofs.Common.{◌≡◌, drop}
use Rattle.syn_cuts.specs.Cuts.{leaves_before}
use Rattle.syn_cuts.proofs.unions.leaves_before.Given as goal

abbrev pub invariant-loop-i : goal.invariant-loop-i
invariant-loop-i l = leaves_before (drop l.i l.left) (drop l.i l.right) ≡ leaves_before l.left l.right
