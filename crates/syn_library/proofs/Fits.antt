-- What a fitted plan computes.
use Rattle.std.proofs.Common.{ℕ, ◌+◌, ◌-◌, ◌%◌, inl, inr, ◌<◌, ◌≤◌, ◌≡◌, Bool, true, false, List, ◌∷◌, map, refl, sym, ap, ◌∙◌, arith, length}
use Rattle.std.specs.Prelude.{◌==◌}
use Rattle.std.proofs.lemmas.Bool.{cond-true, cond-false, cases_eq, eqb-true, eq-eqb, ne_eqb}
use Rattle.std.proofs.lemmas.List.{length-map}
use Rattle.syn_truth.specs.Truth.{AtEach, holds_at_each, minterm_of}
use Rattle.syn_truth.proofs.Each.{each_at}
use Rattle.syn_truth.proofs.Minterms.{minterm_below}
use Rattle.syn_plan.specs.declared.PLit.{PLit}
use Rattle.syn_plan.specs.declared.plan.Plan.{Plan}
use Rattle.syn_plan.specs.Gates.{complement_of, in_order, index_of, literal_value, values_after}
use Rattle.syn_plan.specs.Plans.{plan_truth}
use Rattle.syn_plan.proofs.Chains.{length-values_after}
use Rattle.syn_npn.specs.declared.Transform.{Transform}
use Rattle.syn_npn.specs.Images.{differ, is_permutation, read_at, value_at}
use Rattle.syn_npn.specs.Transforms.{IsCanon}
use Rattle.syn_npn.proofs.Computed.{every, every_at, permutation_at}
use Rattle.syn_npn.proofs.Imaging.{value_at-image_by}
use Rattle.syn_library.specs.Fitting.{Computes, fitted_gate, fitted_leaves, fitted_literal, fitted_out}
use Rattle.syn_library.proofs.Values.{IsAlike-leaves, in_order-fitted, index_of-fitted, literal_value-complement, values_after-fitted}

out_value : (perm : List ℕ) (flips : ℕ) (neg : Bool) (vs : List Bool) (l : PLit) → literal_value vs (fitted_out perm flips neg l) ≡ differ neg (literal_value vs (fitted_literal perm flips l))
out_value perm flips true vs l = literal_value-complement vs (fitted_literal perm flips l)
out_value perm flips false vs l = refl

-- the fitted plan computes what the plan computes of the fitted leaves, complemented where neg is set
pub plan_truth-fitted : (p q : Plan) (t : Transform) → p.leaves ≡ 4 → q.gates.items ≡ map (fitted_gate t.perm t.flips) p.gates.items → q.out ≡ fitted_out t.perm t.flips t.neg p.out → AtEach 4 (λ ys. plan_truth q ys ≡ differ t.neg (plan_truth p (fitted_leaves t.perm t.flips ys)))
unfolding plan_truth
plan_truth-fitted p q t four gates out ys h =
    let ws = false ∷ ys in
    let vs = false ∷ fitted_leaves t.perm t.flips ys in
    let five : 1 + p.leaves ≡ 5 = omega arith in
    let ordered = ap (λ n. in_order n p.gates.items) (sym five) ∙ p.ordered in
    let alike = values_after-fitted t.perm t.flips t.permutes ws vs p.gates.items (IsAlike-leaves t.perm t.flips t.permutes ys h) ordered in
    let there = p.there in
    let count = length-values_after vs p.gates.items in
    ap (λ gs. literal_value (values_after ws gs) q.out) gates
    ∙ ap (literal_value (values_after ws (map (fitted_gate t.perm t.flips) p.gates.items))) out
    ∙ out_value t.perm t.flips t.neg (values_after ws (map (fitted_gate t.perm t.flips) p.gates.items)) p.out
    ∙ ap (differ t.neg) (alike.each p.out (omega arith))

-- the transform reads at the fitted leaves' minterm that of the leaves
abbrev leads_back : List ℕ → ℕ → List Bool → Bool
leads_back perm flips ys = read_at perm flips (minterm_of (fitted_leaves perm flips ys)) == minterm_of ys

leads_back-everywhere : (perm : List ℕ) → is_permutation perm ≡ true → every 16 (λ flips. holds_at_each 4 (leads_back perm flips)) ≡ true
unfolding read_at
leads_back-everywhere = permutation_at (λ perm. every 16 (λ flips. holds_at_each 4 (leads_back perm flips))) refl

read_at-fitted : (perm : List ℕ) (flips : ℕ) → is_permutation perm ≡ true → flips < 16 → AtEach 4 (λ ys. read_at perm flips (minterm_of (fitted_leaves perm flips ys)) ≡ minterm_of ys)
read_at-fitted perm flips h k ys l =
    let some = every_at 16 (λ b. holds_at_each 4 (leads_back perm b)) (leads_back-everywhere perm h) flips k in
    eqb-true _ _ (each_at 4 (leads_back perm flips) some ys l)

differ_twice : (a b : Bool) → differ a (differ a b) ≡ b
differ_twice true true = refl
differ_twice true false = refl
differ_twice false b = refl

-- a plan of the class, fitted, computes the function
pub Computes-fitted : (f class : ℕ) (t : Transform) (p q : Plan) → IsCanon f class t → Computes p class → AtEach 4 (λ ys. plan_truth q ys ≡ differ t.neg (plan_truth p (fitted_leaves t.perm t.flips ys))) → Computes q f
Computes-fitted f class t p q canon computes fitted ys h =
    let xs = fitted_leaves t.perm t.flips ys in
    let m = minterm_of xs in
    fitted ys h
    ∙ ap (differ t.neg)
    (computes xs refl
    ∙ ap (λ g. value_at g m) canon.image
    ∙ value_at-image_by t.perm t.flips t.neg f m (minterm_below xs))
    ∙ differ_twice t.neg (value_at f (read_at t.perm t.flips m))
    ∙ ap (value_at f) (read_at-fitted t.perm t.flips t.permutes t.few ys h)

-- ---- the fitted plan is a plan
pub fitted-ordered : (p : Plan) (t : Transform) (gates : List (PLit × PLit)) → p.leaves ≡ 4 → gates ≡ map (fitted_gate t.perm t.flips) p.gates.items → in_order 5 gates ≡ true
fitted-ordered p t gates four e =
    let five : 1 + p.leaves ≡ 5 = omega arith in
    ap (in_order 5) e ∙ in_order-fitted t.perm t.flips t.permutes 5 p.gates.items (omega arith) (ap (λ n. in_order n p.gates.items) (sym five) ∙ p.ordered)

index_of-complement : (l : PLit) → index_of (complement_of l) ≡ index_of l
index_of-complement l = elim (cases_eq (l.0 % 2) 0) [
  | inl even ↦ omega (arith, cond-true (l.0 % 2 == 0) (l.0 + 1) (l.0 - 1) (eq-eqb (l.0 % 2) 0 even))
  | inr odd ↦ omega (arith, cond-false (l.0 % 2 == 0) (l.0 + 1) (l.0 - 1) (ne_eqb (l.0 % 2) 0 odd))
]

index_of-out : (perm : List ℕ) (flips : ℕ) (neg : Bool) (n : ℕ) (l : PLit) → is_permutation perm ≡ true → 5 ≤ n → index_of l < n → index_of (fitted_out perm flips neg l) < n
index_of-out perm flips true n l p h k = omega (arith, index_of-complement (fitted_literal perm flips l), index_of-fitted perm flips p n l h k)
index_of-out perm flips false n l p h k = index_of-fitted perm flips p n l h k

pub fitted-there : (p : Plan) (t : Transform) (gates : List (PLit × PLit)) (out : PLit) → p.leaves ≡ 4 → gates ≡ map (fitted_gate t.perm t.flips) p.gates.items → out ≡ fitted_out t.perm t.flips t.neg p.out → index_of out < 5 + length gates
fitted-there p t gates out four e o =
    let there = p.there in
    let same = ap length e ∙ length-map p.gates.items (fitted_gate t.perm t.flips) in
    omega (arith, ap index_of o, index_of-out t.perm t.flips t.neg (5 + length p.gates.items) p.out t.permutes (omega arith) (omega arith))
