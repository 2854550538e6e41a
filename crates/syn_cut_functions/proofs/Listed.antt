-- The listed cuts of a node but the last, and what is listed for a graph.
use Rattle.std.proofs.Common.{◌≡◌, ℕ, ◌+◌, ◌-◌, ◌<◌, true, All, List, ◌∷◌, [], ◌++◌, length, get_or, inl, inr, sym, ap, ◌∙◌, subst, arith}
use Rattle.std.proofs.lemmas.Bool.{cases_lt}
use Rattle.std.proofs.lemmas.List.{get_or_append_left, get_or_default, get_or_push, get_or-take, length-take-le, length_push}
use Rattle.std.proofs.lemmas.List.Elements.{All-take}
use Rattle.std.specs.Global.{Vec}
use Rattle.arrayvec.specs.ArrayVec.{ArrayVec}
use Rattle.syn_rows.specs.declared.Row.{Row}
use Rattle.syn_rows.specs.declared.Lit.{Lit}
use Rattle.syn_rows.specs.declared.Row.TheVariants.{And}
use Rattle.syn_rows.specs.Rows.{AllRefs, InOrder, row_at}
use Rattle.syn_rows.specs.Reach.{is_and}
use Rattle.syn_rows.proofs.Folds.{length-fold}
use Rattle.syn_cuts.specs.Cuts.{listed_cuts, row_cuts}
use Rattle.syn_cones.specs.Cones.{IsCut}
use Rattle.syn_cuts.specs.Leaves.{leaves_of}
use Rattle.syn_cuts.specs.Lists.{list_at}
use Rattle.syn_cuts.specs.Laws.{IsListedCut}
use Rattle.syn_cuts.proofs.Cutting.{listed_are_cuts}
use Rattle.syn_cuts.proofs.Rising.{listed_cuts_rise}
use Rattle.syn_graph.specs.declared.Graph.{Graph}
use Rattle.syn_hashed.proofs.Orders.{and_inside, hashed_in_order}
use Rattle.syn_cut_functions.specs.Cuts.{AreLeavesOf, cuts_of}
use Rattle.syn_cut_functions.specs.Functions.{AreFunctionsOver, HaveFunctions}
use Rattle.syn_cut_functions.proofs.Cuts.{leaves_at}

-- the rows of a graph are in order, and so are the fan-ins of an AND

pub in_order : (graph : Graph) → InOrder graph.rows
in_order graph = hashed_in_order graph.source_count graph.rows graph.graph.hashed

pub refs : (graph : Graph) (n : ℕ) (a b : Lit) → row_at graph.rows n ≡ And a b → AllRefs (λ m. m < n) (And a b)
refs graph n a b row = subst (AllRefs (λ m. m < n)) row (in_order graph n)

-- the functions of one node more
pub more_listed : (rows : List Row) (before : List (Vec ℕ)) (one : Vec ℕ) (last : ℕ) → length before ≡ last → HaveFunctions rows before
    → (is_and (row_at rows last) ≡ true → AreFunctionsOver rows last (cuts_of rows last) one.items) → HaveFunctions rows (before ++ one ∷ [])
more_listed rows before one last count have here node d lt gate = elim (cases_lt node (length before)) [
  | inl low ↦ subst (λ (v : Vec ℕ). AreFunctionsOver rows node (cuts_of rows node) v.items) (sym (get_or_append_left before (one ∷ []) d node low)) (have node d low gate)
  | inr high ↦
      let same : last ≡ node = let long = length_push before one in omega arith in
      let found : AreFunctionsOver rows last (cuts_of rows last) one.items = here (subst (λ k. is_and (row_at rows k) ≡ true) (sym same) gate) in
      subst (λ (v : Vec ℕ). AreFunctionsOver rows node (cuts_of rows node) v.items) (sym (get_or_push before one d node (count ∙ same)))
      (subst (λ k. AreFunctionsOver rows k (cuts_of rows k) one.items) same found)
]

-- as many lists as nodes
pub listed_count : (rows : List Row) → length (listed_cuts 4 rows) ≡ length rows
listed_count rows = omega (arith, length-fold (row_cuts 4) [] [] rows)

pub within_lists : (lists : List (List (List ℕ))) (rows : List Row) (node : ℕ) → lists ≡ listed_cuts 4 rows → node < length rows → node < length lists
within_lists lists rows node is lt = omega (arith, ap length is, listed_count rows)

-- the cuts of an AND but the last are at most four nodes that rise below it, and cuts of it
pub listed_leaves : (graph : Graph) (node : ℕ) → is_and (row_at graph.rows node) ≡ true → All (AreLeavesOf graph.rows node) (cuts_of graph.rows node)
listed_leaves graph node gate k d lt =
    subst (AreLeavesOf graph.rows node) (sym same) (record { cut = subst (λ c. IsCut graph.rows c node) same (cuts k d lt); rise = is.rising; below = is.below; few = is.few })
  where
    count : ℕ
    count = graph.source_count

    at : (count < node) × (node < length graph.rows)
    at = and_inside count graph.rows graph.graph.hashed node gate

    all : List (List ℕ)
    all = list_at (listed_cuts 4 graph.rows) node

    low : k + 1 < length all
    low = let short = length-take-le (length all - 1) all (omega arith) in omega (arith, lt, short)

    same : get_or (cuts_of graph.rows node) k d ≡ get_or all k []
    same = get_or-take (length all - 1) all k d (omega (arith, low)) ∙ get_or_default all k d [] (omega (arith, low))

    is : IsListedCut 4 node (get_or all k [])
    is = listed_cuts_rise 4 count graph.rows graph.graph.hashed node at.0 at.1 k low

    cuts : All (λ c. IsCut graph.rows c node) (cuts_of graph.rows node)
    cuts = All-take (λ c. IsCut graph.rows c node) (length all - 1) all (listed_are_cuts 4 graph.rows (hashed_in_order count graph.rows graph.graph.hashed) node at.1)

-- the leaves of a cut that was read
pub leaves_read : (graph : Graph) (node : ℕ) (cuts : List (ArrayVec ℕ)) (i : ℕ) (cut : ArrayVec ℕ) (leaves : List ℕ) → is_and (row_at graph.rows node) ≡ true → leaves_of cuts ≡ cuts_of graph.rows node
    → i < length cuts → cut ≡ get_or cuts i cut → leaves ≡ cut.items → AreLeavesOf graph.rows node leaves
leaves_read graph node cuts i cut leaves gate are lt is same =
    subst (AreLeavesOf graph.rows node) (sym same)
    (leaves_at graph.rows node cuts i cut (subst (λ cs. All (AreLeavesOf graph.rows node) cs) (sym are) (listed_leaves graph node gate)) lt is)
