use Rattle.std.proofs.Common.{◌≡◌, get_or}
use Rattle.syn_npn.specs.Images.{number_of, value_at}
use Rattle.syn_npn.proofs.Transform.moved_flips.Given as goal

abbrev pub invariant-loop-i : goal.invariant-loop-i
invariant-loop-i l = l.flips ≡ number_of l.i (λ j. value_at l.fn.self.flips (get_or l.fn.back j 0))
