use Rattle.std.proofs.Common.{◌≡◌, All, map, sym, ap, ◌∙◌, arith, subst, List, ◌∷◌, [], ◌++◌}
use Rattle.std.proofs.lemmas.List.{take_all}
use Rattle.std.proofs.lemmas.List.Elements.{All-push, All-same}
use Rattle.syn_plan.specs.declared.plan.Plan.{Plan}
use Rattle.syn_plan.specs.Naming.{built_of}
use Rattle.syn_library.specs.Fitting.{Computes, fitted_built}
use Rattle.syn_library.specs.Library.{NamesOwn}
use Rattle.syn_function_plans.proofs.Classes.{class_of_function}
use Rattle.syn_function_plans.proofs.Fitted.{all_fitted, fitted_more}
use Rattle.syn_function_plans.proofs.plans.plans_of.Goals as goal

pub loop-plan-preserved : goal.loop-plan-preserved
loop-plan-preserved c =
    let old = c.loop-plan.fitted.items in
    let new = c.push.new.self.items in
    let plan = c.fit.result in
    let keeps = c.loop-plan.invariant in
    let told = c.push.ensures.items in
    let f = c.args.function in
    let class = c.plans.result.0.now.class in
    let here = λ (P : Plan → Type 0) (all : All P c.plans.result.0.now.plans.items). subst P (sym c.plan-item.is) (subst (λ (ps : List Plan). All P ps) (sym c.deref-plan-items.ensures.0) all c.loop-plan.plan-index c.plan-item.result c.loop-plan-test.true) in
    record {
      count = omega (arith, c.push.ensures.len, keeps.count);
      built = ap (map built_of) told ∙ fitted_more c.plans.result.1 c.deref-plan-items.result.now old c.loop-plan.plan-index c.plan-item.result plan c.loop-plan-test.true c.plan-item.is keeps.built c.fit.ensures.built;
      leaves = All-same (λ p. p.leaves ≡ 4) new (old ++ plan ∷ []) told (All-push (λ p. p.leaves ≡ 4) old plan keeps.leaves c.fit.ensures.leaves);
      values = All-same (λ p. Computes p f) new (old ++ plan ∷ []) told (All-push (λ p. Computes p f) old plan keeps.values
          (c.fit.ensures.fits f class c.plans.ensures (here (λ p. Computes p class) c.plans.result.0.now.truth)));
      names = All-same (λ p. NamesOwn p f) new (old ++ plan ∷ []) told (All-push (λ p. NamesOwn p f) old plan keeps.names
          (c.fit.ensures.names f class c.plans.ensures (here (λ p. NamesOwn p class) c.plans.result.0.now.names)));
    }

pub returns : goal.returns
returns c =
    let one = class_of_function c.args.function c.plans.result.0.now.class c.plans.result.1 c.plans.ensures in
    let items = c.deref-plan-items.result.now in
    let keeps = c.loop-plan.invariant in
    record {
      built =
          keeps.built
          ∙ ap (λ ps. map (fitted_built c.plans.result.1) (map built_of ps)) (take_all c.loop-plan.plan-index items c.loop-plan-test.false)
          ∙ all_fitted c.args.function c.plans.result.0.now.class c.plans.result.1 (map built_of items) one.0 one.1 (ap (map built_of) c.deref-plan-items.ensures.0 ∙ c.plans.result.0.now.of_class);
      leaves = keeps.leaves;
      values = keeps.values;
      names = keeps.names;
    }
