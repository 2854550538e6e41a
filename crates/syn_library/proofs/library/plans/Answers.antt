use Rattle.std.proofs.Common.{◌≡◌, ◌+◌, ◌∷◌, map, length, ap, sym, ◌∙◌, arith}
use Rattle.syn_plan.specs.Naming.{built_of}
use Rattle.syn_library.specs.Fitting.{Computes}
use Rattle.syn_library.specs.Library.{NamesOwn}
use Rattle.syn_library.proofs.Firsts.{All-added, firsts_after, firsts_after-added, length-added, still, still-end, still-more, still-start}
use Rattle.syn_library.proofs.library.plans.Goals as goal

pub loop-order-init : goal.loop-order-init
loop-order-init c =
    let none = c.new-plans.ensures in
    record {
      count = omega (arith, ap length none);
      plans = ap (λ ps. firsts_after (map built_of ps) (still c.args.class 0)) none ∙ still-start c.args.class;
      leaves = λ k d h. absurd (omega (arith, ap length none, h));
      truth = λ k d h. absurd (omega (arith, ap length none, h));
      names = λ k d h. absurd (omega (arith, ap length none, h));
    }

pub loop-order-preserved : goal.loop-order-preserved
loop-order-preserved c =
    let class = c.args.class in
    let i = c.loop-order.order-index in
    let old = c.loop-order.plans.items in
    let new = c.add_new.new.plans.items in
    let plan = c.class_plan.result in
    let keeps = c.loop-order.invariant in
    let seen = map built_of old in
    record {
      count = omega (arith, length-added old new plan c.add_new.ensures, keeps.count);
      plans =
          firsts_after-added old new plan c.add_new.ensures (still class (i + 1))
          ∙ ap (λ b. firsts_after seen (b ∷ still class (i + 1))) c.class_plan.ensures.built
          ∙ sym (ap (firsts_after seen) (still-more class i c.loop-order-test.true))
          ∙ keeps.plans;
      leaves = All-added old new plan c.add_new.ensures (λ p. p.leaves ≡ 4) keeps.leaves c.class_plan.ensures.leaves;
      truth = All-added old new plan c.add_new.ensures (λ p. Computes p class) keeps.truth c.class_plan.ensures.truth;
      names = All-added old new plan c.add_new.ensures (λ p. NamesOwn p class) keeps.names c.class_plan.ensures.names;
    }

pub returns-clause-plans : goal.returns-clause-plans
returns-clause-plans c =
    sym (ap (firsts_after (map built_of c.loop-order.plans.items)) (still-end c.args.class c.loop-order.order-index c.loop-order-test.false))
    ∙ c.loop-order.invariant.plans
