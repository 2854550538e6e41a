use Rattle.std.proofs.Common.{◌≡◌, ◌+◌, drop}
use Rattle.syn_npn.specs.Images.{place_in}
use Rattle.syn_npn.proofs.Transform.place_of.Given as goal

abbrev pub invariant-loop-i : goal.invariant-loop-i
invariant-loop-i l = l.i + place_in (drop l.i l.fn.self.perm) l.variable ≡ place_in l.fn.self.perm l.variable
