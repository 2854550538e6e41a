-- The nodes whose rows are a plan's gates.
use Rattle.std.specs.Prelude.{◌≡◌, ℕ, ◌+◌, ◌*◌, ◌<◌, ◌≤◌, ◌||◌, Bool, true, false, List, ◌++◌, length, take, ⊤}
use Rattle.syn_rows.specs.declared.Lit.{Lit}
use Rattle.syn_rows.specs.declared.Row.{Row}
use Rattle.syn_rows.specs.declared.Row.TheVariants.{And}
use Rattle.syn_rows.specs.Nodes.{has_node}
use Rattle.syn_rows.specs.Rows.{node_of, row_at}
use Rattle.syn_cones.specs.Walk.{rises}
use Rattle.syn_resub.specs.declared.forms.Form.{Form}
use Rattle.syn_resub.specs.declared.forms.Form.TheVariants.{Constant, One, Both}
use Rattle.syn_resub.specs.Resubstitution.{needed_below}

-- the form is made of these nodes
abbrev pub IsMadeOf : List ℕ → Form → Type 0
IsMadeOf ds (Constant x) = ⊤
IsMadeOf ds (One l) = has_node ds (node_of l) ≡ true
IsMadeOf ds (Both l m sign) = (has_node ds (node_of l) ≡ true) × (has_node ds (node_of m) ≡ true)

-- the node is a leaf or one of the others
abbrev pub is_there : List ℕ → List ℕ → ℕ → Bool
is_there leaves inner n = has_node leaves n || has_node inner n

-- the row is an AND of two such nodes
abbrev pub JoinsThere : List Row → List ℕ → List ℕ → ℕ → Type 0
JoinsThere rows leaves inner n = (a : Lit) × (b : Lit) × (row_at rows n ≡ And a b) × (is_there leaves inner (node_of a) ≡ true) × (is_there leaves inner (node_of b) ≡ true)

-- Rising nodes, none of them a leaf, each an AND of leaves and of others of them.
pub record AreInner (rows : List Row) (leaves inner : List ℕ) : Type 0 where
  pub rise : rises inner ≡ true
  pub apart : (n : ℕ) → has_node inner n ≡ true → has_node leaves n ≡ false
  pub join : (n : ℕ) → has_node inner n ≡ true → JoinsThere rows leaves inner n

-- All nodes that are needed, and behind them the ones from number low on: what is wanted below it is among the first i divisors.
pub record IsNeeding (rows : List Row) (leaves ds : List ℕ) (node : ℕ) (roots : List ℕ) (i : ℕ) (wanted inner : List ℕ) (low : ℕ) (all : List ℕ) : Type 0 where
  pub same : (m : ℕ) → has_node wanted m ≡ has_node all m
  pub needed : needed_below rows leaves low all ++ inner ≡ needed_below rows leaves node roots
  pub before : (m : ℕ) → m < low → has_node all m ≡ true → has_node (take i ds) m ≡ true
  pub first : (m : ℕ) → has_node (take i ds) m ≡ true → m < low
  pub few_wanted : length wanted + 2 * i ≤ 2 + 2 * length ds
  pub few_inner : length inner + i ≤ length ds

abbrev pub Needs : List Row → List ℕ → List ℕ → ℕ → List ℕ → ℕ → List ℕ → List ℕ → Type 0
Needs rows leaves ds node roots i wanted inner = (low : ℕ) × (all : List ℕ) × IsNeeding rows leaves ds node roots i wanted inner low all
