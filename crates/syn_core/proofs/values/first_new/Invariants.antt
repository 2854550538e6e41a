use Rattle.std.proofs.Common.{◌≡◌, drop}
use Rattle.syn_core_laws.specs.Lists.{look}
use Rattle.syn_core.specs.Told.{new_value, first_new}
use Rattle.syn_core.proofs.values.first_new.Given as goal

abbrev pub invariant-loop-x : goal.invariant-loop-x
invariant-loop-x l = first_new (new_value (λ n. look n l.rows) l.told) (drop l.x-index l.rows) ≡ first_new (new_value (λ n. look n l.rows) l.told) l.rows
