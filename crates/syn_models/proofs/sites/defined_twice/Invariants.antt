use Rattle.std.proofs.Common.{◌≡◌, ℕ, List, drop, take}
use Rattle.syn_models.specs.FlatFaults.{first_again}
use Rattle.syn_models.specs.Marked.{Marked, pushed, defines_in}
use Rattle.syn_models.specs.Views.{model_in}
use Rattle.syn_models.proofs.sites.defined_twice.Given as goal

abbrev pub invariant-loop-b : goal.invariant-loop-b
invariant-loop-b l = record {
  left : (before : List (List ℕ)) → Marked l.home before l.fn.marks
      → first_again (pushed before (defines_in l.home (model_in l.m) (take l.b-index l.binds))) (defines_in l.home (model_in l.m) (drop l.b-index l.binds)) ≡ first_again before (defines_in l.home (model_in l.m) l.binds);
  marked : (before : List (List ℕ)) → Marked l.home before l.fn.marks → Marked l.home (pushed before (defines_in l.home (model_in l.m) (take l.b-index l.binds))) l.marks;
}
