-- Fitting the plans of a class one after the other.
use Rattle.std.proofs.Common.{◌≡◌, ℕ, ◌+◌, ◌<◌, List, ◌∷◌, [], ◌++◌, length, get_or, map, take, refl, sym, ap, ap₂, ◌∙◌}
use Rattle.std.proofs.lemmas.List.{map-append, take_more}
use Rattle.syn_plan.specs.declared.plan.Plan.{Plan}
use Rattle.syn_plan.specs.Factoring.{Built}
use Rattle.syn_npn.specs.declared.Transform.{Transform}
use Rattle.syn_plan.specs.Naming.{built_of}
use Rattle.syn_library.specs.Fitting.{fitted_built}
use Rattle.syn_library.specs.Library.{plans_of}
use Rattle.syn_function_plans.specs.Classes.{class_of, transform_of}
use Rattle.syn_function_plans.specs.Laws.{IsAt}
use Rattle.syn_function_plans.specs.PlansOf.{fitted_at, fitted_plans}

pub fitted_more : (t : Transform) (plans fitted : List Plan) (i : ℕ) (plan new : Plan) → i < length plans → plan ≡ get_or plans i plan
    → map built_of fitted ≡ map (fitted_built t) (map built_of (take i plans)) → built_of new ≡ fitted_built t (built_of plan)
    → map built_of (fitted ++ new ∷ []) ≡ map (fitted_built t) (map built_of (take (i + 1) plans))
fitted_more t plans fitted i plan new lt is before one =
    map-append built_of fitted (new ∷ [])
    ∙ (let e : map built_of fitted ++ built_of new ∷ [] ≡ map (fitted_built t) (map built_of (take i plans)) ++ fitted_built t (built_of plan) ∷ [] = cc in e)
    ∙ sym (ap (λ ps. map (fitted_built t) (map built_of ps)) (take_more plans i plan lt ∙ ap (λ p. take i plans ++ p ∷ []) (sym is))
    ∙ ap (map (fitted_built t)) (map-append built_of (take i plans) (plan ∷ []))
    ∙ map-append (fitted_built t) (map built_of (take i plans)) (built_of plan ∷ []))

-- fitting by the transform at a place
fitted_is_at : (place : ℕ) (t : Transform) (b : Built) → IsAt place t → fitted_built t b ≡ fitted_at place b
fitted_is_at place t b at = cc (at.perm, at.flips, at.neg)

mapped_at : (place : ℕ) (t : Transform) → IsAt place t → (bs : List Built) → map (fitted_built t) bs ≡ map (fitted_at place) bs
mapped_at place t at [] = refl
mapped_at place t at (b ∷ bs) = ap₂ (λ x xs. x ∷ xs) (fitted_is_at place t b at) (mapped_at place t at bs)

-- all plans of the class, fitted by the first transform to it
pub all_fitted : (f class : ℕ) (t : Transform) (bs : List Built) → class ≡ class_of f → IsAt (transform_of f) t → bs ≡ plans_of class → map (fitted_built t) bs ≡ fitted_plans f
unfolding fitted_plans
all_fitted f class t bs same at is = mapped_at (transform_of f) t at bs ∙ ap (map (fitted_at (transform_of f))) (is ∙ ap plans_of same)
