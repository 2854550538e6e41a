-- A plan of a node's function over a cut is sound.
use Rattle.std.proofs.Common.{◌≡◌, ℕ, ◌≤◌, Bool, List, [], ◌∷◌, length, take, refl, sym, ap, ◌∙◌, arith}
use Rattle.syn_rows.specs.declared.Row.{Row}
use Rattle.syn_truth.specs.Truth.{value_of}
use Rattle.syn_plan.specs.declared.plan.Plan.{Plan}
use Rattle.syn_plan.specs.Plans.{plan_truth}
use Rattle.syn_plan.specs.Naming.{built_of}
use Rattle.syn_library.specs.Fitting.{Computes}
use Rattle.syn_cones.specs.Cones.{IsCut}
use Rattle.syn_gain.specs.Replacements.{leaf_values}
use Rattle.syn_apply.specs.Sound.{IsSoundBy, PlanComputes}
use Rattle.syn_cut_functions.specs.Functions.{IsFunctionOver}
use Rattle.syn_rewrite.specs.Rewriting.{over}

-- the values of four leaves, of which there are fewer
first_leaves : (xs : List Bool) → length xs ≤ 4 → take (length xs) (leaf_values 4 xs) ≡ xs
first_leaves [] few = refl
first_leaves (a ∷ []) few = refl
first_leaves (a ∷ b ∷ []) few = refl
first_leaves (a ∷ b ∷ c ∷ []) few = refl
first_leaves (a ∷ b ∷ c ∷ d ∷ []) few = refl
first_leaves (a ∷ b ∷ c ∷ d ∷ e ∷ xs) few = absurd (omega arith)

pub plan_is_sound : (rows : List Row) (leaves : List ℕ) (node f : ℕ) (p : Plan) → IsCut rows leaves node → IsFunctionOver rows leaves node f → Computes p f → IsSoundBy rows (over node leaves (built_of p))
unfolding plan_truth
plan_is_sound rows leaves node f p cut function computes = record { cut = cut; truth = (function.table, function.truth, values) }
  where
    values : PlanComputes (over node leaves (built_of p)) function.table
    values xs long =
        let vars : function.table.vars ≡ length xs = function.truth.vars ∙ sym long in
        computes (leaf_values 4 xs) refl
        ∙ function.values (leaf_values 4 xs) refl
        ∙ ap (λ k. value_of function.table (take k (leaf_values 4 xs))) vars
        ∙ ap (value_of function.table) (first_leaves xs (let le = function.few in omega arith))
