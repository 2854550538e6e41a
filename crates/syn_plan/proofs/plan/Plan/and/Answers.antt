use Rattle.std.proofs.Common.{◌≡◌, ◌+◌, true, subst, sym, arith}
use Rattle.syn_plan.specs.Gates.{in_order}
use Rattle.syn_plan.proofs.Chains.{in_order-push}
use Rattle.syn_plan.proofs.plan.Plan.and.Goals as goal

pub invariant_of-self-clause-ordered : goal.invariant_of-self-clause-ordered
invariant_of-self-clause-ordered c =
    subst (λ gates. in_order (1 + c.args.self.now.leaves) gates ≡ true) (sym c.push.ensures.items)
    (in_order-push (1 + c.args.self.now.leaves) c.args.self.now.gates.items c.args.a c.args.b c.args.self.now.ordered (omega arith) (omega arith))
