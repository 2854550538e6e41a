-- A form's plan is a sound proposal.
use Rattle.std.proofs.Common.{◌≡◌, ℕ, ◌+◌, ◌<◌, true, false, All, List, [], ◌∷◌, ◌++◌, get_or, length, map, take, sym, ap, ap₂, ◌∙◌, subst, arith}
use Rattle.std.proofs.lemmas.List.{map-append, take_more}
use Rattle.std.proofs.lemmas.List.Elements.{All-map}
use Rattle.std.specs.Bool.{beq}
use Rattle.std.specs.List.{AllWithin, HoldsAt}
use Rattle.syn_rows.specs.declared.Lit.{Lit}
use Rattle.syn_rows.specs.declared.Row.{Row}
use Rattle.syn_rows.specs.Values.{value_in}
use Rattle.syn_graph.specs.declared.Graph.{Graph}
use Rattle.syn_truth.specs.Truth.{AtEach, value_of}
use Rattle.syn_truth.proofs.Each.{each_at, same_from_test}
use Rattle.syn_plan.specs.declared.plan.Plan.{Plan}
use Rattle.syn_plan.specs.Factoring.{Built}
use Rattle.syn_plan.specs.Gates.{literal_value, values_after}
use Rattle.syn_plan.specs.Naming.{built_of}
use Rattle.syn_plan.specs.Plans.{plan_truth}
use Rattle.syn_cones.specs.Values.{values_over}
use Rattle.syn_gain.specs.declared.proposals.Proposal.{Proposal}
use Rattle.syn_gain.specs.Proposals.{replacement}
use Rattle.syn_gain.specs.Replacements.{Replacement}
use Rattle.syn_growing.specs.Plans.{over}
use Rattle.syn_growing.proofs.InGraphs.{and_there, in_order}
use Rattle.syn_proposals.specs.Closing.{IsFirst, SavesNothing, SavesSome}
use Rattle.syn_proposals.proofs.Firsts.{first_is}
use Rattle.syn_resub.specs.declared.divided.Divided.{Divided}
use Rattle.syn_resub.specs.declared.forms.Form.{Form}
use Rattle.syn_resub.specs.Divided.{AreDivided}
use Rattle.syn_resub.specs.Divisors.{divisors}
use Rattle.syn_resub.specs.Forms.{form_value, found_forms, stands_for}
use Rattle.syn_resub.specs.Needed.{IsMadeOf}
use Rattle.syn_resub.specs.Resubstitution.{plan_for, resubstitutions, resubstitutions_over}
use Rattle.syn_resub.proofs.Gated.{plan_has}
use Rattle.syn_resub.proofs.InGraph.{are_divisors}
use Rattle.syn_resub.proofs.Made.{found_are_made, found_stand}

pub proposal_is : (node : ℕ) (leaves : List ℕ) (plan : Plan) (p : Proposal) (b : Built) → p.root ≡ node → p.leaves.items ≡ leaves → p.plan ≡ plan → plan.leaves ≡ length leaves → built_of plan ≡ b → replacement p ≡ over node leaves b
proposal_is node leaves plan p b root items same count built = is ∙ ap (over node leaves) built
  where
    is : replacement p ≡ over node leaves (built_of plan)
    is = cc (root, items, same, count)

-- a plan of a form that stands has the values of the node's table
pub plan_computes : (graph : Graph) (node : ℕ) (d : Divided) (form : Form) (plan : Plan) → AreDivided graph.rows node d → IsMadeOf d.nodes.items form → stands_for graph.rows d.leaves.items node form ≡ true
    → built_of plan ≡ plan_for graph.rows d.leaves.items node form → AtEach d.table.vars (λ xs. plan_truth plan xs ≡ value_of d.table xs)
unfolding plan_truth
plan_computes graph node d form plan divided made stands built xs long =
    ap (λ (b : Built). literal_value (values_after (false ∷ xs) b.gates) b.out) built
    ∙ plan_has graph.rows d.leaves.items xs (in_order graph) same_length node d.nodes.items (are_divisors graph node d divided) (and_there graph node divided.gate)
    (λ m h. let lt = (divided.are.within m h).1 in let there = and_there graph node divided.gate in omega (arith, lt, there)) form made
    ∙ same_from_test _ _ (each_at (length d.leaves.items) (λ ys. beq (form_value (value_in (values_over graph.rows d.leaves.items ys)) form) (value_in (values_over graph.rows d.leaves.items ys) node)) stands xs same_length)
    ∙ sym (divided.table.each xs same_length)
  where
    same_length : length xs ≡ length d.leaves.items
    same_length = long ∙ divided.table.vars

-- a form that was found
pub form_found : (rows : List Row) (node : ℕ) (d : Divided) (fs : List Form) (i : ℕ) (form : Form) → AreDivided rows node d → fs ≡ found_forms rows d.leaves.items node → i < length fs → form ≡ get_or fs i form
    → (IsMadeOf d.nodes.items form) × (stands_for rows d.leaves.items node form ≡ true)
form_found rows node d fs i form divided is lt at = (
  subst (λ ds. IsMadeOf ds form) (sym divided.nodes) (subst (IsMadeOf (divisors rows d.leaves.items node)) (sym here) (found_are_made rows d.leaves.items node i form low)),
  subst (λ f. stands_for rows d.leaves.items node f ≡ true) (sym here) (found_stand rows d.leaves.items node i form low),
)
  where
    here : form ≡ get_or (found_forms rows d.leaves.items node) i form
    here = at ∙ ap (λ (l : List Form). get_or l i form) is

    low : i < length (found_forms rows d.leaves.items node)
    low = let long = ap (λ (l : List Form). length l) is in omega (arith, long, lt)

-- one proposal more
pub proposals_more : (f : Form → Replacement) (fs : List Form) (i : ℕ) (form : Form) (old new : List Proposal) (p : Proposal) → i < length fs → form ≡ get_or fs i form → new ≡ old ++ p ∷ [] → replacement p ≡ f form
    → map replacement old ≡ map f (take i fs) → map replacement new ≡ map f (take (i + 1) fs)
proposals_more f fs i form old new p lt at is one before =
    ap (map replacement) is ∙ map-append replacement old (p ∷ []) ∙ ap₂ (λ (rs : List Replacement) r. rs ++ r ∷ []) before (one ∙ ap f at)
    ∙ sym (map-append f (take i fs) (get_or fs i form ∷ [])) ∙ ap (map f) (sym (take_more fs i form lt))

-- the first form that saves is the first proposal that does
pub first_form : (rows : List Row) (observed : List Lit) (node : ℕ) (d : Divided) (fs : List Form) (i : ℕ) (form : Form) (p : Proposal) → AreDivided rows node d → fs ≡ found_forms rows d.leaves.items node → i < length fs → form ≡ get_or fs i form
    → replacement p ≡ over node d.leaves.items (plan_for rows d.leaves.items node form) → HoldsAt (λ x. SavesSome rows observed (over node d.leaves.items (plan_for rows d.leaves.items node x))) fs i
    → AllWithin (λ x. SavesNothing rows observed (over node d.leaves.items (plan_for rows d.leaves.items node x))) fs 0 i → IsFirst rows observed (resubstitutions rows node) (replacement p)
first_form rows observed node d fs i form p divided same lt at is some nothing =
    subst (λ ls. IsFirst rows observed (resubstitutions_over rows ls node) (replacement p)) divided.leaves
    (subst (IsFirst rows observed (resubstitutions_over rows d.leaves.items node)) (sym is)
    (subst (λ (xs : List Form). IsFirst rows observed (map f xs) (f form)) same (first_is rows observed f fs i form lt at (subst (λ x. SavesSome rows observed (f x)) (sym at) (some form)) nothing)))
  where
    f : Form → Replacement
    f x = over node d.leaves.items (plan_for rows d.leaves.items node x)

-- where no form saves, no proposal does
pub no_form : (rows : List Row) (observed : List Lit) (node : ℕ) (d : Divided) (fs : List Form) → AreDivided rows node d → fs ≡ found_forms rows d.leaves.items node
    → All (λ x. SavesNothing rows observed (over node d.leaves.items (plan_for rows d.leaves.items node x))) fs → All (SavesNothing rows observed) (resubstitutions rows node)
no_form rows observed node d fs divided same all =
    subst (λ ls. All (SavesNothing rows observed) (resubstitutions_over rows ls node)) divided.leaves
    (All-map (SavesNothing rows observed) (λ x. over node d.leaves.items (plan_for rows d.leaves.items node x)) (found_forms rows d.leaves.items node)
    (subst (All (λ x. SavesNothing rows observed (over node d.leaves.items (plan_for rows d.leaves.items node x)))) same all))
