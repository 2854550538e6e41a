-- The factored plan of a function over the leaves of a cone is the proposal, and sound.
use Rattle.std.proofs.Common.{◌≡◌, ℕ, Bool, false, true, List, [], ◌∷◌, length, sym, ap, ap₂, ◌∙◌, subst}
use Rattle.syn_rows.specs.declared.Row.{Row}
use Rattle.syn_rows.specs.Reach.{is_and}
use Rattle.syn_rows.specs.Rows.{row_at}
use Rattle.syn_graph.specs.declared.Graph.{Graph}
use Rattle.syn_truth.specs.declared.Truth.{Truth}
use Rattle.syn_truth.specs.Truth.{value_of}
use Rattle.syn_plan.specs.declared.plan.Plan.{Plan}
use Rattle.syn_plan.specs.Factoring.{factored, falling}
use Rattle.syn_plan.specs.Gates.{literal_value, values_after}
use Rattle.syn_plan.specs.Naming.{built_of}
use Rattle.syn_plan.specs.Plans.{plan_truth}
use Rattle.syn_plan.proofs.Factored.{factored_after-same}
use Rattle.syn_cones.specs.Cones.{IsTruthOver}
use Rattle.syn_cones.specs.Values.{value_over}
use Rattle.syn_gain.specs.declared.proposals.Candidate.{Candidate}
use Rattle.syn_gain.specs.Proposals.{replacement_of}
use Rattle.syn_gain.specs.Replacements.{Replacement, leaf_values}
use Rattle.syn_apply.specs.Sound.{IsSoundBy, PlanComputes}
use Rattle.syn_growing.specs.Cones.{AreLeaves}
use Rattle.syn_growing.specs.Plans.{over}
use Rattle.syn_growing.proofs.InGraphs.{table_values}
use Rattle.syn_refactor.specs.Cones.{IsConeOf}
use Rattle.syn_refactor.specs.Known.{IsFactored}
use Rattle.syn_refactor.specs.Refactoring.{factored_over, refactorings}

-- the plan of the table is the plan of the node's function
plan_is : (graph : Graph) (node : ℕ) (leaves : List ℕ) (t : Truth) (p : Plan) → is_and (row_at graph.rows node) ≡ true → AreLeaves graph.rows node leaves → IsTruthOver graph.rows leaves node t
    → p.gates.items ≡ (factored t.vars (falling t.vars) (value_of t)).gates → p.out ≡ (factored t.vars (falling t.vars) (value_of t)).out → built_of p ≡ factored_over graph.rows node leaves
plan_is graph node leaves t p gate are truth gates out =
    ap₂ (λ g o. record { gates = g; out = o }) gates out
    ∙ ap (λ n. factored n (falling n) (value_of t)) truth.vars
    ∙ factored_after-same (length leaves) (falling (length leaves)) (value_of t) (value_over graph.rows leaves node) (table_values graph node leaves t gate are truth) []

-- it is the proposal
pub candidate_is : (graph : Graph) (node : ℕ) (leaves : List ℕ) (t : Truth) (plan : Plan) (c : Candidate) → is_and (row_at graph.rows node) ≡ true → IsConeOf graph.rows node leaves t → IsFactored t plan
    → c.root ≡ node → c.leaves.now ≡ leaves → c.plan.now ≡ plan → replacement_of c ∷ [] ≡ refactorings graph.rows node
candidate_is graph node leaves t plan c gate cone known root items same =
    ap (λ (r : Replacement). r ∷ []) is ∙ ap (λ ls. over node ls (factored_over graph.rows node ls) ∷ []) cone.is
  where
    built : built_of plan ≡ factored_over graph.rows node leaves
    built = plan_is graph node leaves t plan gate cone.cut cone.function known.gates known.out

    count : plan.leaves ≡ length leaves
    count = known.leaves ∙ cone.function.vars

    is : replacement_of c ≡ over node leaves (factored_over graph.rows node leaves)
    is = cc (root, items, same, count, built)

-- and it is sound
pub candidate_sound : (rows : List Row) (node : ℕ) (leaves : List ℕ) (t : Truth) (plan : Plan) (c : Candidate) → IsConeOf rows node leaves t → IsFactored t plan
    → ((values : List Bool) → leaf_values (length values) values ≡ values) → c.root ≡ node → c.leaves.now ≡ leaves → c.plan.now ≡ plan → IsSoundBy rows (replacement_of c)
unfolding plan_truth
candidate_sound rows node leaves t plan c cone known all root items same =
    subst (IsSoundBy rows) (sym is) (record { cut = cone.cut.cut; truth = (t, cone.function, computes) })
  where
    made : Replacement
    made = record { root = node; leaves = leaves; count = plan.leaves; gates = plan.gates.items; out = plan.out }

    is : replacement_of c ≡ made
    is = cc (root, items, same)

    computes : PlanComputes made t
    computes xs long =
        ap (λ (vs : List Bool). literal_value (values_after (false ∷ vs) plan.gates.items) plan.out)
        ((let same_count : plan.leaves ≡ length xs = known.leaves ∙ cone.function.vars ∙ sym long in ap (λ n. leaf_values n xs) same_count) ∙ all xs)
        ∙ known.truth xs (long ∙ sym cone.function.vars)
