use Rattle.std.proofs.Common.{◌≡◌, ◌++◌}
use Rattle.syn_models.specs.Flattening.{slashes}
use Rattle.syn_models.proofs.called_names.push_slashes.Given as goal

abbrev pub invariant-loop : goal.invariant-loop
invariant-loop l = l.name.items ≡ l.fn.name.items ++ slashes l.counter
