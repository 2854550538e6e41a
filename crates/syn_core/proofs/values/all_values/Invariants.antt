use Rattle.std.proofs.Common.{ℕ, Bool, List}
use Rattle.syn_core_laws.specs.Lists.{look}
use Rattle.syn_core.specs.Told.{IsTold, untold}
use Rattle.syn_core.proofs.values.all_values.Given as goal

abbrev pub invariant-loop-value : goal.invariant-loop-value
invariant-loop-value l = (over : List ℕ) (choice : ℕ → Bool) → IsTold (λ n. look n l.rows) over choice l.fn.told.items → IsTold (λ n. look n l.rows) over choice l.told.items

abbrev pub decreases-loop-value : goal.decreases-loop-value
decreases-loop-value l = untold l.told.items l.rows
