use Rattle.std.proofs.Common.{◌≡◌}
use Rattle.syn_npn.specs.Images.{number_of, value_read}
use Rattle.syn_npn.proofs.Transform.read_at.Given as goal

abbrev pub invariant-loop-i : goal.invariant-loop-i
invariant-loop-i l = l.read ≡ number_of l.i (value_read l.fn.self.perm l.fn.self.flips l.minterm)
