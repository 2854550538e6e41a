use Rattle.std.proofs.Common.{◌≡◌, ◌≤◌, map, All}
use Rattle.arrayvec.specs.ArrayVec.{array_vec_len}
use Rattle.syn_plan.specs.Naming.{built_of}
use Rattle.syn_library.specs.Fitting.{Computes}
use Rattle.syn_library.specs.Library.{plans_of, NamesOwn}
use Rattle.syn_library.proofs.Firsts.{firsts_after, still}
use Rattle.syn_library.proofs.library.plans.Given as goal

abbrev pub invariant-loop-order : goal.invariant-loop-order
invariant-loop-order l = record {
  count : array_vec_len l.plans ≤ l.order-index;
  plans : firsts_after (map built_of l.plans.items) (still l.class l.order-index) ≡ plans_of l.class;
  leaves : All (λ p. p.leaves ≡ 4) l.plans.items;
  truth : All (λ p. Computes p l.class) l.plans.items;
  names : All (λ p. NamesOwn p l.class) l.plans.items;
}
