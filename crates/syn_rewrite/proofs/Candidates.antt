-- Plans of a node's function over its leaves, as proposals.
use Rattle.std.proofs.Common.{◌≡◌, ℕ, zero, suc, ◌+◌, ◌<◌, true, All, List, [], ◌∷◌, ◌++◌, length, flat_map, map, take, drop, get_or, append_assoc, refl, sym, ap, ◌∙◌, subst, arith}
use Rattle.std.specs.Global.{Vec}
use Rattle.std.specs.List.{AllZip}
use Rattle.std.proofs.lemmas.List.{length-map, map-append}
use Rattle.std.proofs.lemmas.List.Elements.{All-append}
use Rattle.arrayvec.specs.ArrayVec.{ArrayVec}
use Rattle.syn_rows.specs.declared.Lit.{Lit}
use Rattle.syn_rows.specs.declared.Row.{Row}
use Rattle.syn_rows.specs.Rows.{row_at}
use Rattle.syn_rows.specs.Reach.{is_and}
use Rattle.syn_hashed.proofs.Orders.{and_inside, hashed_in_order}
use Rattle.syn_graph.specs.declared.Graph.{Graph}
use Rattle.syn_plan.specs.declared.plan.Plan.{Plan}
use Rattle.syn_plan.specs.Naming.{IsWithin, built_of}
use Rattle.syn_library.specs.Fitting.{Computes}
use Rattle.syn_library.specs.Library.{NamesOwn}
use Rattle.syn_library.proofs.Owned.{own_within}
use Rattle.syn_gain.specs.declared.proposals.Proposal.{Proposal}
use Rattle.syn_gain.specs.Proposals.{replacement}
use Rattle.syn_gain.specs.Replacements.{Replacement}
use Rattle.syn_apply.specs.Sound.{IsSoundBy}
use Rattle.syn_proposals.specs.Sound.{IsSound}
use Rattle.syn_cuts.specs.Leaves.{leaves as leaves_in, leaves_of}
use Rattle.syn_proposals.specs.Closing.{IsFirst, SavesNothing}
use Rattle.syn_proposals.proofs.Savings.{first_of_parts}
use Rattle.syn_cut_functions.specs.Cuts.{AreLeavesOf, cuts_of}
use Rattle.syn_cut_functions.specs.Functions.{AreFunctionsOver, IsFunctionOver, cut_function}
use Rattle.syn_cut_functions.proofs.Cuts.{leaves_is}
use Rattle.syn_cut_functions.proofs.Numbers.{function_of_table}
use Rattle.syn_function_plans.specs.PlansOf.{ArePlansOf, fitted_plans}
use Rattle.syn_rewrite.specs.declared.prepared.Prepared.{Prepared}
use Rattle.syn_rewrite.specs.Prepared.{IsPreparedFor}
use Rattle.syn_rewrite.specs.Rewriting.{cut_proposals, over, rewritings}
use Rattle.syn_rewrite.proofs.Parts.{flat_map_at, flat_map_more, map_more, maps}
use Rattle.syn_rewrite.proofs.Sound.{plan_is_sound}

-- a plan names no leaf behind those of the cut
pub within_leaves : (rows : List Row) (leaves : List ℕ) (node f : ℕ) (p : Plan) → IsFunctionOver rows leaves node f → NamesOwn p f → IsWithin (length leaves) 4 (built_of p)
within_leaves rows leaves node f p function names =
    subst (λ k. IsWithin k 4 (built_of p)) function.truth.vars (own_within function.table f p function.few function.values names)

-- an AND is no constant, and is there
pub and_above : (graph : Graph) (node : ℕ) → is_and (row_at graph.rows node) ≡ true → 0 < node
and_above graph node gate = let at = and_inside graph.source_count graph.rows graph.graph.hashed node gate in omega (arith, at.0)

pub and_there : (graph : Graph) (node : ℕ) → is_and (row_at graph.rows node) ≡ true → node < length graph.rows
and_there graph node gate = (and_inside graph.source_count graph.rows graph.graph.hashed node gate).1

-- the function of an AND over its leaves
pub is_function : (graph : Graph) (node f : ℕ) (leaves : List ℕ) → is_and (row_at graph.rows node) ≡ true → AreLeavesOf graph.rows node leaves → IsFunctionOver graph.rows leaves node f → f ≡ cut_function graph.rows leaves node
is_function graph node f leaves gate are function =
    let count = graph.source_count in
    function_of_table graph.rows leaves node f (hashed_in_order count graph.rows graph.graph.hashed) (and_there graph node gate) are.rise are.below function

-- the plans of that function are the proposals of the cut
pub plans_are : (rows : List Row) (node f : ℕ) (leaves : List ℕ) (plans : List Plan) → f ≡ cut_function rows leaves node → ArePlansOf f plans
    → map (λ p. over node leaves (built_of p)) plans ≡ cut_proposals rows node leaves
plans_are rows node f leaves plans same are =
    sym (maps (over node leaves) built_of plans) ∙ ap (map (over node leaves)) (are.built ∙ ap fitted_plans same)

pub is_sound : (rows : List Row) (node f : ℕ) (leaves : List ℕ) (plan : Plan) (p : Proposal) → replacement p ≡ over node leaves (built_of plan)
    → AreLeavesOf rows node leaves → IsFunctionOver rows leaves node f → Computes plan f → IsSound rows p
is_sound rows node f leaves plan p is are function computes = subst (IsSoundBy rows) (sym is) (plan_is_sound rows leaves node f plan are.cut function computes)

pub has_root : (node : ℕ) (leaves : List ℕ) (plan : Plan) (p : Proposal) → replacement p ≡ over node leaves (built_of plan) → p.root ≡ node
has_root node leaves plan p is = ap (λ (r : Replacement). r.root) is

-- one proposal more
pub more_proposals : (node : ℕ) (leaves : List ℕ) (plans : List Plan) (init : List Replacement) (old new : List Proposal) (i : ℕ) (plan : Plan) (p : Proposal)
    → i < length plans → plan ≡ get_or plans i plan → new ≡ old ++ p ∷ [] → replacement p ≡ over node leaves (built_of plan)
    → map replacement old ≡ init ++ map (λ q. over node leaves (built_of q)) (take i plans) → map replacement new ≡ init ++ map (λ q. over node leaves (built_of q)) (take (i + 1) plans)
more_proposals node leaves plans init old new i plan p lt is told same before =
    let f : Plan → Replacement = λ q. over node leaves (built_of q) in
    ap (map replacement) told
    ∙ map-append replacement old (p ∷ [])
    ∙ ap (λ xs. xs ++ replacement p ∷ []) before
    ∙ append_assoc init (map f (take i plans)) (replacement p ∷ [])
    ∙ ap (λ xs. init ++ xs) (ap (λ r. map f (take i plans) ++ r ∷ []) same ∙ sym (map_more f plans i plan lt is))

-- the first of a cut's proposals, where those of the cuts before save nothing, is the first of all
pub first_of_all : (rows : List Row) (observed : List Lit) (node : ℕ) (cuts : List (ArrayVec ℕ)) (i : ℕ) (leaves : List ℕ) (r : Replacement)
    → leaves_of cuts ≡ cuts_of rows node → i < length cuts → leaves ≡ get_or (leaves_of cuts) i leaves
    → All (SavesNothing rows observed) (flat_map (cut_proposals rows node) (take i (leaves_of cuts)))
    → IsFirst rows observed (cut_proposals rows node leaves) r → IsFirst rows observed (rewritings rows node) r
first_of_all rows observed node cuts i leaves r are lt here nothing first =
    let f : List ℕ → List Replacement = cut_proposals rows node in
    let xs : List (List ℕ) = leaves_of cuts in
    subst (λ l. IsFirst rows observed l r)
    (flat_map_at f xs i leaves (omega (arith, length-map cuts leaves_in)) ∙ ap (flat_map f) are)
    (first_of_parts rows observed (flat_map f (take i xs)) (f (get_or xs i leaves)) (flat_map f (drop (i + 1) xs)) r nothing
    (subst (λ ls. IsFirst rows observed (f ls) r) here first))

-- proposals of one cut more
pub more_cuts : (rows : List Row) (node : ℕ) (cuts : List (ArrayVec ℕ)) (i : ℕ) (leaves : List ℕ) → i < length cuts → leaves ≡ get_or (leaves_of cuts) i leaves
    → flat_map (cut_proposals rows node) (take i (leaves_of cuts)) ++ cut_proposals rows node leaves ≡ flat_map (cut_proposals rows node) (take (i + 1) (leaves_of cuts))
more_cuts rows node cuts i leaves lt here = sym (flat_map_more (cut_proposals rows node) (leaves_of cuts) i leaves (omega (arith, length-map cuts leaves_in)) here)

-- where the proposals of one cut more save nothing
pub nothing_more : (rows : List Row) (observed : List Lit) (node : ℕ) (cuts : List (ArrayVec ℕ)) (i : ℕ) (leaves : List ℕ) (root : ℕ) → i < length cuts → root ≡ node → leaves ≡ get_or (leaves_of cuts) i leaves
    → All (SavesNothing rows observed) (flat_map (cut_proposals rows node) (take i (leaves_of cuts))) → All (SavesNothing rows observed) (cut_proposals rows root leaves)
    → All (SavesNothing rows observed) (flat_map (cut_proposals rows node) (take (i + 1) (leaves_of cuts)))
nothing_more rows observed node cuts i leaves root lt same here before none =
    subst (λ (l : List Replacement). All (SavesNothing rows observed) l) (more_cuts rows node cuts i leaves lt here)
    (All-append (SavesNothing rows observed) (flat_map (cut_proposals rows node) (take i (leaves_of cuts))) (cut_proposals rows node leaves) before
    (subst (λ (n : ℕ). All (SavesNothing rows observed) (cut_proposals rows n leaves)) same none))

-- what has one root has the same one by another name
pub same_root : (was now : List Proposal) (root node : ℕ) → root ≡ node → (All (λ p. p.root ≡ root) was → All (λ p. p.root ≡ root) now) → All (λ p. p.root ≡ node) was → All (λ p. p.root ≡ node) now
same_root was now root node same = subst (λ (n : ℕ). All (λ p. p.root ≡ n) was → All (λ p. p.root ≡ n) now) same

-- what is read of the lists

zip_length : {A B : Type 0} (R : A → B → Type 0) (xs : List A) (ys : List B) → AllZip R xs ys → length xs ≡ length ys
zip_length R [] [] h = refl
zip_length R (x ∷ xs) (y ∷ ys) h = ap suc (zip_length R xs ys h.1)
zip_length R [] (y ∷ ys) h = absurd h
zip_length R (x ∷ xs) [] h = absurd h

zip_at : {A B : Type 0} (R : A → B → Type 0) (xs : List A) (ys : List B) (i : ℕ) (d : A) (e : B) → AllZip R xs ys → i < length xs → R (get_or xs i d) (get_or ys i e)
zip_at R [] ys i d e h lt = absurd (omega arith)
zip_at R (x ∷ xs) (y ∷ ys) zero d e h lt = h.0
zip_at R (x ∷ xs) (y ∷ ys) (suc i) d e h lt = zip_at R xs ys i d e h.1 (omega arith)
zip_at R (x ∷ xs) [] i d e h lt = absurd h

pub functions_at : (lists : Prepared) (rows : List Row) (node : ℕ) (v : Vec ℕ) → IsPreparedFor lists rows → node < length rows → is_and (row_at rows node) ≡ true → v ≡ get_or lists.functions.items node v
    → AreFunctionsOver rows node (cuts_of rows node) v.items
functions_at lists rows node v prepared lt gate is =
    subst (λ (w : Vec ℕ). AreFunctionsOver rows node (cuts_of rows node) w.items) (sym is) (prepared.functions node v (omega (arith, prepared.count)) gate)

pub functions_count : (rows : List Row) (node : ℕ) (cuts : List (ArrayVec ℕ)) (fs : List ℕ) → leaves_of cuts ≡ cuts_of rows node → AreFunctionsOver rows node (cuts_of rows node) fs → length cuts ≡ length fs
functions_count rows node cuts fs are h =
    sym (length-map cuts leaves_in) ∙ ap length are ∙ zip_length (λ c f. IsFunctionOver rows c node f) (cuts_of rows node) fs h

pub function_read : (rows : List Row) (node : ℕ) (cuts : List (ArrayVec ℕ)) (fs : List ℕ) (i f : ℕ) (cut : ArrayVec ℕ) (leaves : List ℕ) → leaves_of cuts ≡ cuts_of rows node
    → AreFunctionsOver rows node (cuts_of rows node) fs → i < length cuts → cut ≡ get_or cuts i cut → leaves ≡ cut.items → f ≡ get_or fs i f → IsFunctionOver rows leaves node f
function_read rows node cuts fs i f cut leaves are h lt is same at =
    let over : AreFunctionsOver rows node (leaves_of cuts) fs = subst (λ cs. AreFunctionsOver rows node cs fs) (sym are) h in
    let here : leaves ≡ get_or (leaves_of cuts) i cut.items = same ∙ leaves_is cuts i cut is in
    subst (λ ls. IsFunctionOver rows ls node f) (sym here)
    (subst (λ k. IsFunctionOver rows (get_or (leaves_of cuts) i cut.items) node k) (sym at)
    (zip_at (λ c k. IsFunctionOver rows c node k) (leaves_of cuts) fs i cut.items f over (omega (arith, length-map cuts leaves_in))))
