use Rattle.std.proofs.Common.{◌≡◌, ◌++◌, drop, Some}
use Rattle.syn_models.specs.Reading.{bound_numbers}
use Rattle.syn_models.specs.Views.{model_in}
use Rattle.syn_models.proofs.undriven.push_bound.Given as goal

abbrev pub invariant-loop-b : goal.invariant-loop-b
invariant-loop-b l = l.numbers.items ++ bound_numbers (drop l.b-index l.binds) (Some (model_in l.m)) ≡ l.fn.numbers.items ++ bound_numbers l.binds (Some (model_in l.m))
