-- A plan that has the values of a node's table over its leaves is a sound proposal.
use Rattle.std.proofs.Common.{◌≡◌, ℕ, Bool, false, List, ◌∷◌, length, sym, ap, ◌∙◌, subst}
use Rattle.syn_rows.specs.declared.Row.{Row}
use Rattle.syn_truth.specs.declared.Truth.{Truth}
use Rattle.syn_truth.specs.Truth.{AtEach, value_of}
use Rattle.syn_plan.specs.declared.plan.Plan.{Plan}
use Rattle.syn_plan.specs.Gates.{literal_value, values_after}
use Rattle.syn_plan.specs.Plans.{plan_truth}
use Rattle.syn_cones.specs.Cones.{IsTruthOver}
use Rattle.syn_gain.specs.declared.proposals.Proposal.{Proposal}
use Rattle.syn_gain.specs.Proposals.{replacement}
use Rattle.syn_gain.specs.Replacements.{Replacement, leaf_values}
use Rattle.syn_apply.specs.Sound.{IsSoundBy, PlanComputes}
use Rattle.syn_growing.specs.Cones.{AreLeaves}

pub is_sound : (rows : List Row) (node : ℕ) (leaves : List ℕ) (t : Truth) (plan : Plan) (p : Proposal) → AreLeaves rows node leaves → IsTruthOver rows leaves node t → plan.leaves ≡ length leaves
    → ((values : List Bool) → leaf_values (length values) values ≡ values) → AtEach t.vars (λ xs. plan_truth plan xs ≡ value_of t xs)
    → p.root ≡ node → p.leaves.items ≡ leaves → p.plan ≡ plan → IsSoundBy rows (replacement p)
unfolding plan_truth
is_sound rows node leaves t plan p are truth count all values root items same =
    subst (IsSoundBy rows) (sym is) (record { cut = are.cut; truth = (t, truth, computes) })
  where
    made : Replacement
    made = record { root = node; leaves = leaves; count = plan.leaves; gates = plan.gates.items; out = plan.out }

    is : replacement p ≡ made
    is = cc (root, items, same)

    computes : PlanComputes made t
    computes xs long =
        ap (λ (vs : List Bool). literal_value (values_after (false ∷ vs) plan.gates.items) plan.out) ((let same_count : plan.leaves ≡ length xs = count ∙ sym long in ap (λ n. leaf_values n xs) same_count) ∙ all xs)
        ∙ values xs (long ∙ sym truth.vars)
