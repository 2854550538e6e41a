use Rattle.std.proofs.Common.{◌≡◌, ℕ, ◌+◌, ◌<◌, ◌≤◌, [], ◌∷◌, ◌&&◌, Bool, List, length, get_or, drop, sym, ap, ap₂, ◌∙◌, arith, length-append}
use Rattle.std.proofs.lemmas.List.{drop_all}
use Rattle.syn_plan.specs.declared.PLit.{PLit}
use Rattle.syn_plan.specs.Gates.{literal_value, values_after}
use Rattle.syn_plan.specs.Plans.{plan_truth}
use Rattle.syn_plan.specs.Tables.{values_in}
use Rattle.syn_plan.proofs.Chains.{in_order-rest, values_after-rest}
use Rattle.syn_plan.proofs.plan.Plan.truth_in.Goals as goal

-- what the gate of index k computes
abbrev gate_value : List Bool → List (PLit × PLit) → ℕ → Bool
gate_value values gates k =
    literal_value values (get_or gates k (record { 0 = 0 }, record { 0 = 0 })).0
    && literal_value values (get_or gates k (record { 0 = 0 }, record { 0 = 0 })).1

pub loop-a-preserved : goal.loop-a-preserved
loop-a-preserved g c =
    let gates : List (PLit × PLit) = c.args.self.now.gates.items in
    let same : c.deref-a-items.result.now ≡ c.args.self.now.gates.items = c.deref-a-items.ensures.0 in
    let within : c.loop-a.a-index < length c.args.self.now.gates.items = omega (arith, ap length same, c.loop-a-test.true) in
    let longer : length c.push.new.self.items.items ≡ length c.loop-a.tables.items.items + 1 = ap length c.push.ensures.items ∙ length-append c.loop-a.tables.items.items (c.and-gate.result ∷ []) in
    record {
      vars = omega arith;
      count = omega (arith, longer, c.loop-a.invariant.count);
      ordered = in_order-rest gates c.loop-a.a-index (record { 0 = 0 }, record { 0 = 0 }) within _ _ (sym longer) c.loop-a.invariant.ordered;
      values = λ xs h.
          ap (λ tables. values_after (values_in tables xs) (drop (c.loop-a.a-index + 1) gates)) c.push.ensures.items
          ∙ values_after-rest gates c.loop-a.a-index (record { 0 = 0 }, record { 0 = 0 }) within c.loop-a.tables.items.items c.and-gate.result xs _
          (c.and-gate.ensures.values xs (omega arith)
          ∙ ap₂ (λ a b. a && b) (c.table.ensures.values xs (omega arith)) (c.table-in-loop-a.ensures.values xs (omega arith))
          ∙ ap (λ seen. gate_value (values_in c.loop-a.tables.items.items xs) seen c.loop-a.a-index) same)
          (c.loop-a.invariant.values xs h);
    }

pub returns-clause-values : goal.returns-clause-values
unfolding plan_truth
returns-clause-values g c = λ xs h.
    let same : c.deref-a-items.result.now ≡ c.args.self.now.gates.items = c.deref-a-items.ensures.0 in
    let past : length c.args.self.now.gates.items ≤ c.loop-a.a-index = omega (arith, ap length same, c.loop-a-test.false) in
    let width : length xs ≡ c.loop-a.tables.vars = omega arith in
    c.table-2.ensures.values xs width
    ∙ ap (λ values. literal_value values c.args.self.now.out)
    (sym (ap (values_after (values_in c.loop-a.tables.items.items xs)) (drop_all c.loop-a.a-index c.args.self.now.gates.items past)) ∙ c.loop-a.invariant.values xs h)
