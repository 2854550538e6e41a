use Rattle.std.proofs.Common.{◌≡◌}
use Rattle.syn_gen.specs.Generated.{signals}
use Rattle.syn_gen.proofs.names.signal_names.Given as goal

abbrev pub invariant-loop-number : goal.invariant-loop-number
invariant-loop-number l = l.names ≡ signals l.number
