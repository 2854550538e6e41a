use Rattle.std.proofs.Common.{◌≡◌, ℕ, ◌+◌, ◌≤◌, ◌<◌, true, List, [], ◌∷◌, false, length, subst, sym, ap, ap₂, ◌∙◌, arith, ◌||◌}
use Rattle.syn_truth.specs.declared.Truth.{Truth}
use Rattle.syn_truth.specs.Truth.{value_of}
use Rattle.syn_plan.specs.declared.PLit.{PLit}
use Rattle.syn_plan.specs.Gates.{index_of, literal_value, values_after}
use Rattle.syn_plan.specs.Plans.{plan_truth}
use Rattle.syn_plan.specs.Factoring.{factored, factored_after, most_gates, names_once}
use Rattle.syn_plan.proofs.Builds.{IsBuilt}
use Rattle.syn_plan.proofs.Factored.{is_factored}
use Rattle.syn_plan.specs.Naming.{gates_name, names}
use Rattle.syn_plan.proofs.Named.{factored_needed}
use Rattle.syn_plan.proofs.Orders.{order_parts, order_covers, few_gates}
use Rattle.syn_plan.proofs.factors.factor_in.Goals as goal

-- what an order that names each variable once builds
whole : (f : Truth) (order : List ℕ) → names_once f.vars order ≡ true → IsBuilt f.vars [] (factored f.vars order (value_of f)) (value_of f) (most_gates f.vars)
whole f order h =
    let parts : length order ≡ f.vars = (order_parts f.vars order h).0 in
    subst (λ (k : ℕ). IsBuilt f.vars [] (factored f.vars order (value_of f)) (value_of f) (most_gates k)) parts
    (is_factored f.vars order (value_of f) [] (order_parts f.vars order h).1 (order_covers f.vars order (value_of f) h))

pub build-out-requires-clause-covers : goal.build-out-requires-clause-covers
build-out-requires-clause-covers c = order_covers c.args.f.vars c.args.order.now (value_of c.args.f) c.requires

pub build-out-requires-clause-room : goal.build-out-requires-clause-room
build-out-requires-clause-room c =
    let built : IsBuilt c.args.f.vars [] (factored c.args.f.vars c.args.order.now (value_of c.args.f)) (value_of c.args.f) (most_gates c.args.f.vars) = whole c.args.f c.args.order.now c.requires in
    subst (λ (gates : List (PLit × PLit)). length (factored_after c.args.f.vars c.args.order.now (value_of c.args.f) gates).gates ≤ 381) (sym c.new-plan.ensures.gates)
    (omega (arith, built.few, few_gates c.args.f.vars c.args.f.few))

pub invariant_of-plan-clause-there : goal.invariant_of-plan-clause-there
invariant_of-plan-clause-there c =
    let built : IsBuilt c.args.f.vars [] (factored c.args.f.vars c.args.order.now (value_of c.args.f)) (value_of c.args.f) (most_gates c.args.f.vars) = whole c.args.f c.args.order.now c.requires in
    let gates : c.build-out.new.plan.gates.items ≡ (factored c.args.f.vars c.args.order.now (value_of c.args.f)).gates =
    c.build-out.ensures.gates ∙ ap (λ gates. (factored_after c.args.f.vars c.args.order.now (value_of c.args.f) gates).gates) c.new-plan.ensures.gates in
    let out : c.build-out.result ≡ (factored c.args.f.vars c.args.order.now (value_of c.args.f)).out =
    c.build-out.ensures.out ∙ ap (λ gates. (factored_after c.args.f.vars c.args.order.now (value_of c.args.f) gates).out) c.new-plan.ensures.gates in
    let leaves : c.args.f.vars ≡ c.build-out.new.plan.leaves = sym (c.build-out.ensures.leaves ∙ c.new-plan.ensures.leaves) in
    subst (λ (n : ℕ). index_of c.build-out.result < 1 + n + length c.build-out.new.plan.gates.items) leaves
    (subst (λ (gates : List (PLit × PLit)). index_of c.build-out.result < 1 + c.args.f.vars + length gates) (sym gates)
    (subst (λ (l : PLit). index_of l < 1 + c.args.f.vars + length (factored c.args.f.vars c.args.order.now (value_of c.args.f)).gates) (sym out) built.there))

pub returns-clause-truth : goal.returns-clause-truth
unfolding plan_truth
returns-clause-truth c = λ xs h.
    let built : IsBuilt c.args.f.vars [] (factored c.args.f.vars c.args.order.now (value_of c.args.f)) (value_of c.args.f) (most_gates c.args.f.vars) = whole c.args.f c.args.order.now c.requires in
    let gates : c.build-out.new.plan.gates.items ≡ (factored c.args.f.vars c.args.order.now (value_of c.args.f)).gates =
    c.build-out.ensures.gates ∙ ap (λ gates. (factored_after c.args.f.vars c.args.order.now (value_of c.args.f) gates).gates) c.new-plan.ensures.gates in
    let out : c.build-out.result ≡ (factored c.args.f.vars c.args.order.now (value_of c.args.f)).out =
    c.build-out.ensures.out ∙ ap (λ gates. (factored_after c.args.f.vars c.args.order.now (value_of c.args.f) gates).out) c.new-plan.ensures.gates in
    ap₂ (λ gates l. literal_value (values_after (false ∷ xs) gates) l) gates out ∙ built.value xs h

pub returns-clause-few : goal.returns-clause-few
returns-clause-few c =
    let built : IsBuilt c.args.f.vars [] (factored c.args.f.vars c.args.order.now (value_of c.args.f)) (value_of c.args.f) (most_gates c.args.f.vars) = whole c.args.f c.args.order.now c.requires in
    let gates : c.build-out.new.plan.gates.items ≡ (factored c.args.f.vars c.args.order.now (value_of c.args.f)).gates =
    c.build-out.ensures.gates ∙ ap (λ gates. (factored_after c.args.f.vars c.args.order.now (value_of c.args.f) gates).gates) c.new-plan.ensures.gates in
    omega (arith, ap length gates, built.few)

pub returns-clause-names : goal.returns-clause-names
returns-clause-names c = λ i l d.
    let gates : c.build-out.new.plan.gates.items ≡ (factored c.args.f.vars c.args.order.now (value_of c.args.f)).gates =
    c.build-out.ensures.gates ∙ ap (λ gates. (factored_after c.args.f.vars c.args.order.now (value_of c.args.f) gates).gates) c.new-plan.ensures.gates in
    let out : c.build-out.result ≡ (factored c.args.f.vars c.args.order.now (value_of c.args.f)).out =
    c.build-out.ensures.out ∙ ap (λ gates. (factored_after c.args.f.vars c.args.order.now (value_of c.args.f) gates).out) c.new-plan.ensures.gates in
    ap₂ (λ gates out. gates_name i gates || names i out) gates out
    ∙ factored_needed c.args.f.vars c.args.order.now (value_of c.args.f) i l d
