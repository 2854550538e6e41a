-- The functions of nodes over their cuts, carried from fan-ins to nodes.
use Rattle.std.specs.Prelude.{◌≡◌, ℕ, ◌<◌, true, false, All, IfSome, List, length, slice_index_or}
use Rattle.std.specs.Global.{Vec}
use Rattle.syn_rows.specs.declared.Lit.{Lit}
use Rattle.syn_rows.specs.declared.Row.{Row}
use Rattle.syn_rows.specs.declared.Row.TheVariants.{And}
use Rattle.syn_rows.specs.Nodes.{has_node}
use Rattle.syn_rows.specs.Reach.{is_and}
use Rattle.syn_rows.specs.Rows.{InOrder, node_of, row_at}
use Rattle.syn_cones.specs.CutTruth.{IsCutFunction}
use Rattle.syn_cones.specs.declared.carried.CutFunction.{CutFunction}
use Rattle.syn_cuts.specs.Cuts.{listed_cuts}
use Rattle.syn_cuts.specs.Naming.{rows_of}
use Rattle.syn_cut_functions.specs.Functions.{AreFunctionsOver}
use Rattle.syn_cut_functions.specs.Cuts.{cuts_of}
use Rattle.syn_cut_functions.specs.declared.cut_truth.CutTruth.{CutTruth}
use Rattle.syn_cut_functions.specs.declared.cut_truth.Functions.{Functions}
use Rattle.syn_cut_functions.specs.declared.levels.Found.{Found}

-- each is the function of the node over the cut at its place
abbrev pub AreCarried : List Row → ℕ → List (List ℕ) → List CutTruth → Type 0
AreCarried rows node cuts known = (i : ℕ) (c : List ℕ) (d : CutTruth) → i < length known → i < length cuts → IsCutFunction rows (slice_index_or cuts i c) node (slice_index_or known i d).function

-- functions of the node of a literal over its cuts
abbrev pub AreOfLit : List Row → Lit → List CutTruth → Type 0
AreOfLit rows lit known = AreCarried rows (node_of lit) (cuts_of rows (node_of lit)) known

-- the function of an AND over leaves below it, if those that are known of its fan-ins are right
abbrev pub FollowsFrom : ℕ → Lit → Lit → List CutTruth → List CutTruth → List ℕ → List (List (List ℕ)) → CutFunction → Type 0
FollowsFrom node first second left right leaves cuts f = (rows : List Row) → InOrder rows → row_at rows node ≡ And first second → has_node leaves node ≡ false
    → cuts ≡ listed_cuts 4 rows → AreOfLit rows first left → AreOfLit rows second right → IsCutFunction rows leaves node f

-- the functions of the first nodes over their cuts, as many nodes as there are lists
abbrev pub HaveCarried : List Row → List Functions → Type 0
HaveCarried rows lists = (node : ℕ) (d : Functions) → node < length lists → AreCarried rows node (cuts_of rows node) (slice_index_or lists node d).carried.items

-- The functions of a node over its first cuts, and, where they are there, those over all of them as numbers.
pub record IsOwnOf (rows : List Row) (node : ℕ) (f : Functions) : Type 0 where
  pub carried : AreCarried rows node (cuts_of rows node) f.carried.items
  pub numbers : IfSome f.numbers (λ v. is_and (row_at rows node) ≡ true → AreFunctionsOver rows node (cuts_of rows node) v.items)

-- A node of the rows with its own.
pub record IsFoundIn (rows : List Row) (f : Found) : Type 0 where
  pub within : f.node < length rows
  pub own : IsOwnOf rows f.node f.own

-- Several such nodes.
pub record AreFoundIn (rows : List Row) (list : Vec Found) : Type 0 where
  pub each : All (IsFoundIn rows) list.items

-- the same for the rows that have these numbers
abbrev pub AreFoundFor : List ℕ → Vec Found → Type 0
AreFoundFor name list = AreFoundIn (rows_of name) list

-- Each node of the rows has its own.
pub record AreOfAll (rows : List Row) (lists : List Functions) : Type 0 where
  pub count : length lists ≡ length rows
  pub each : (node : ℕ) (d : Functions) → node < length lists → IsOwnOf rows node (slice_index_or lists node d)
