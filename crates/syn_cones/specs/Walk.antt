-- The walk from a root down to the leaves of a cut: which nodes it meets, and in which order.
use Rattle.std.specs.Prelude.{◌≡◌, ℕ, suc, ◌<◌, nat_lt, ◌==◌, ◌&&◌, if◌then◌else◌, Bool, true, false, List, [], ◌∷◌, ◌++◌, length, slice_index_or}
use Rattle.std.specs.List.{list_all}
use Rattle.syn_rows.specs.declared.Row.{Row}
use Rattle.syn_truth.specs.declared.Truth.{Truth}
use Rattle.syn_truth.specs.Truth.{value_of}
use Rattle.syn_rows.specs.Nodes.{has_node}
use Rattle.syn_cones.specs.Cones.{refs_at, is_end, LeadsTo, FitsAt, IsFunctionOf}

-- a node put in its place among rising nodes, where it isn't there yet
abbrev pub put_node : ℕ → List ℕ → List ℕ
put_node n [] = n ∷ []
put_node n (m ∷ ms) = if nat_lt n m then n ∷ m ∷ ms else if n == m then m ∷ ms else m ∷ put_node n ms

-- nodes put one after the other
abbrev pub put_nodes : List ℕ → List ℕ → List ℕ
put_nodes [] ms = ms
put_nodes (n ∷ ns) ms = put_nodes ns (put_node n ms)

-- the nodes that a node's row refers to, none where the node is a leaf
abbrev pub inner_refs : List Row → List ℕ → ℕ → List ℕ
inner_refs rows leaves n = if has_node leaves n then [] else refs_at rows n

-- each of the second list is in the first
abbrev pub has_all : List ℕ → List ℕ → Bool
has_all nodes others = list_all (has_node nodes) others

-- each node of the list refers only to nodes behind it and to others
abbrev pub is_closed : List Row → List ℕ → List ℕ → List ℕ → Bool
is_closed rows leaves [] others = true
is_closed rows leaves (n ∷ ns) others = has_all (ns ++ others) (inner_refs rows leaves n) && is_closed rows leaves ns others

-- the nodes rise
abbrev pub rises : List ℕ → Bool
rises [] = true
rises (n ∷ ns) = list_all (nat_lt n) ns && rises ns

-- one more than the last of the nodes
abbrev pub top : List ℕ → ℕ
top [] = 0
top (n ∷ []) = suc n
top (n ∷ m ∷ ms) = top (m ∷ ms)

-- each node of the list is led to from the root
abbrev pub AreLedTo : List Row → List ℕ → ℕ → List ℕ → Type 0
AreLedTo rows leaves root nodes = (n : ℕ) → has_node nodes n ≡ true → (path : List ℕ) × LeadsTo rows leaves root path n

-- The nodes that are done, and those that wait: the root is among them, each of them is led to from it, and those that are done refer only to nodes behind them or waiting.
pub record IsConeWalk (rows : List Row) (leaves : List ℕ) (root : ℕ) (done waiting : List ℕ) : Type 0 where
  pub there : has_node (done ++ waiting) root ≡ true
  pub led : AreLedTo rows leaves root (done ++ waiting)
  pub closed : is_closed rows leaves done waiting ≡ true

-- Each node that was found has its table: the function over the leaves.
pub record AreFunctions (rows : List Row) (leaves : List ℕ) (root : ℕ) (nodes : List ℕ) (tables : List Truth) : Type 0 where
  pub count : length tables ≡ length nodes
  pub each : (i : ℕ) (t : Truth) → i < length nodes → slice_index_or tables i t ≡ t → IsFunctionOf rows leaves root (slice_index_or nodes i 0) t

-- each of the tables has so many variables
abbrev pub have_vars : ℕ → List Truth → Bool
have_vars vars tables = list_all (λ t. t.vars == vars) tables

-- each of the nodes has in the valuation the value of its table at the values xs
abbrev pub TablesAgree : (ℕ → Bool) → List Bool → List ℕ → List Truth → Type 0
TablesAgree v xs nodes tables = (i : ℕ) (t : Truth) → i < length nodes → slice_index_or tables i t ≡ t → v (slice_index_or nodes i 0) ≡ value_of t xs

-- where the node isn't a leaf, it isn't the end of a path, and its value fits
abbrev pub FitsInside : List Row → List ℕ → (ℕ → Bool) → ℕ → Type 0
FitsInside rows leaves v n = has_node leaves n ≡ false → (is_end rows n ≡ false) × FitsAt rows v n
