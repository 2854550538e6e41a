use Rattle.std.proofs.Common.{rules, ◌≡◌, ℕ, Bool, List, length, sym, ap, ◌∙◌, subst}
use Rattle.syn_rows.specs.declared.Row.{Row}
use Rattle.syn_truth.specs.declared.Truth.{Truth}
use Rattle.syn_truth.specs.Truth.{AtEach, value_of}
use Rattle.syn_plan.specs.declared.plan.Plan.{Plan}
use Rattle.syn_plan.specs.Plans.{plan_truth}
use Rattle.syn_cones.specs.Cones.{IsCut, IsTruthOver}
use Rattle.syn_gain.specs.declared.proposals.Proposal.{Proposal}
use Rattle.syn_gain.specs.Proposals.{replacement}
use Rattle.syn_gain.specs.Replacements.{leaf_values}
use Rattle.syn_apply.specs.Sound.{IsSoundBy, PlanComputes}
use Rattle.test_values.proofs.saved.factored.Goals as goal

-- a proposal of a plan that has a function's values, over the leaves of a cut
sound_over : (rows : List Row) (p : Proposal) (node : ℕ) (cut : List ℕ) (t : Truth) (plan : Plan) → ((xs : List Bool) → leaf_values (length xs) xs ≡ xs)
    → IsCut rows cut node → IsTruthOver rows cut node t → plan.leaves ≡ t.vars → AtEach t.vars (λ xs. plan_truth plan xs ≡ value_of t xs)
    → p.root ≡ node → p.leaves.items ≡ cut → p.plan ≡ plan → IsSoundBy rows (replacement p)
unfolding plan_truth
sound_over rows p node cut t plan all is_cut truth leaves values same_root same_leaves same_plan = record {
  cut = subst (λ (k : ℕ). IsCut rows p.leaves.items k) (sym same_root) (subst (λ (l : List ℕ). IsCut rows l node) (sym same_leaves) is_cut);
  truth = (t, subst (λ (k : ℕ). IsTruthOver rows p.leaves.items k t) (sym same_root) (subst (λ (l : List ℕ). IsTruthOver rows l node t) (sym same_leaves) truth), computes);
}
  where
    computes : PlanComputes (replacement p) t
    computes xs h =
        let width : length xs ≡ t.vars = h ∙ ap length same_leaves ∙ sym truth.vars in
        ap (λ (q : Plan). plan_truth q (leaf_values q.leaves xs)) same_plan
        ∙ ap (λ k. plan_truth plan (leaf_values k xs)) (leaves ∙ sym width)
        ∙ ap (plan_truth plan) (all xs)
        ∙ values xs width

pub returns : goal.returns
returns c =
    let rows = c.args.graph.now.rows in
    let cut = c.args.cut.now.items in
    let truth : IsTruthOver rows cut c.args.node c.in_ok-truth.truth = search rules in
    sound_over rows c.over.result c.args.node cut c.in_ok-truth.truth c.factor.result c.all_leaf_values.ensures c.requires.cut truth c.factor.ensures.leaves c.factor.ensures.truth c.over.ensures.root
    (c.over.ensures.leaves ∙ c.in-Some.ensures ∙ c.as_slice-2.ensures.value) c.over.ensures.plan
