use Rattle.std.proofs.Common.{rules, ◌≡◌, ℕ, ◌+◌, ◌<◌, List, length, take, get_or, subst, arith}
use Rattle.syn_plan.specs.declared.PLit.{PLit}
use Rattle.syn_weighing.specs.AllNew.{StandsApart, first_of}
use Rattle.syn_weighing.proofs.all_new.is_apart_plan.Goals as goal

pub returns-then-apart-leaves : goal.returns-then-apart-leaves
returns-then-apart-leaves c = λ h.
    let named = c.args.apart.now.named in
    let leaves : c.from-leaves.result ≡ c.args.plan.now.leaves = search rules in
    let all : (gates : List (PLit × PLit)) (firsts : List ℕ) (count : ℕ) → Type 0 =
    λ gates firsts count. (i : ℕ) (gate : PLit × PLit) → i < length gates → StandsApart named (1 + count) (first_of (1 + count) firsts) (take i gates) (get_or gates i gate) in
    record {
      leaves = omega (arith, c.if-apart-leaves.true, leaves);
      gates = subst (λ (gates : List (PLit × PLit)). all gates c.args.apart.now.firsts.items c.args.plan.now.leaves) c.as_slice.ensures.value
          (subst (λ (firsts : List ℕ). all c.as_slice.result.now firsts c.args.plan.now.leaves) c.as_slice-firsts.ensures.value
          (subst (λ (k : ℕ). all c.as_slice.result.now c.as_slice-firsts.result.now k) leaves (c.all_stand_apart.ensures h)));
    }
