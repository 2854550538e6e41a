use Rattle.std.proofs.Common.{◌≡◌, ◌++◌, drop}
use Rattle.test_values.proofs.parities.inputs_of.Given as goal

abbrev pub invariant-loop-signal : goal.invariant-loop-signal
invariant-loop-signal l = l.inputs.items ++ drop l.signal-index l.signals ≡ l.signals
