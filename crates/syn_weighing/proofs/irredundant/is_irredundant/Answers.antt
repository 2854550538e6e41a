use Rattle.std.proofs.Common.{rules, ◌≡◌, ℕ, ◌+◌, List, subst}
use Rattle.syn_plan.specs.declared.PLit.{PLit}
use Rattle.syn_weighing.specs.Irredundant.{IsLean}
use Rattle.syn_weighing.proofs.irredundant.is_irredundant.Goals as goal

pub returns : goal.returns
returns c = λ h.
    let leaves : c.from.result ≡ c.args.plan.now.leaves = search rules in
    subst (λ (gates : List (PLit × PLit)). IsLean (1 + c.args.plan.now.leaves) gates c.args.plan.now.out) c.as_slice.ensures.value
    (subst (λ (k : ℕ). IsLean (1 + k) c.as_slice.result.now c.args.plan.now.out) leaves (c.are_named.ensures h))
