-- The check of the paths that are shown for a node, as tests.
use Rattle.std.specs.Prelude.{◌≡◌, ℕ, ◌==◌, ◌≤◌, ◌&&◌, not, nat_lt, Bool, true, false, List, [], ◌∷◌, slice_index_or}
use Rattle.std.specs.List.{list_all}
use Rattle.std.proofs.Math.ListN.{set}
use Rattle.syn_rows.specs.declared.Row.{Row}
use Rattle.syn_rows.specs.Nodes.{has_node}
use Rattle.syn_cones.specs.Cones.{is_end, refs_at, Refers}
use Rattle.syn_paths.specs.Tops.{label_in}

-- the node has the stamp
abbrev pub is_marked : List ℕ → ℕ → ℕ → Bool
is_marked marks stamp n = slice_index_or marks n 0 == stamp

-- each of the nodes is below
abbrev pub all_within : ℕ → List ℕ → Bool
all_within count nodes = list_all (λ n. nat_lt n count) nodes

-- the node hasn't the label of the level
abbrev pub is_off : List ℕ → ℕ → ℕ → Bool
is_off labels level n = not (label_in labels n == level)

-- from a node up along the nodes, none of them of the level, to one that is marked
abbrev pub goes_up : List Row → List ℕ → ℕ → List ℕ → ℕ → ℕ → List ℕ → Bool
goes_up rows labels level marks stamp n [] = is_marked marks stamp n
goes_up rows labels level marks stamp n (m ∷ path) = (has_node (refs_at rows m) n && is_off labels level m) && goes_up rows labels level marks stamp m path

-- a list that begins with a source and goes up
abbrev pub is_list : List Row → List ℕ → ℕ → List ℕ → ℕ → List ℕ → Bool
is_list rows labels level marks stamp [] = false
is_list rows labels level marks stamp (n ∷ path) = (is_end rows n && is_off labels level n) && goes_up rows labels level marks stamp n path

-- none of the nodes is marked, nor stands there twice
abbrev pub are_new : List ℕ → ℕ → List ℕ → Bool
are_new marks stamp [] = true
are_new marks stamp (n ∷ nodes) = not (is_marked marks stamp n) && are_new (set marks n stamp) stamp nodes

-- the marks with those of the nodes
abbrev pub mark_all : List ℕ → ℕ → List ℕ → List ℕ
mark_all marks stamp [] = marks
mark_all marks stamp (n ∷ nodes) = mark_all (set marks n stamp) stamp nodes

-- each list is such, and no node stands twice over all
abbrev pub are_lists : List Row → List ℕ → ℕ → List ℕ → ℕ → List ℕ → List (List ℕ) → Bool
are_lists rows labels level marks stamp met [] = true
are_lists rows labels level marks stamp met (list ∷ lists) =
    is_list rows labels level marks stamp list && (are_new met stamp list && are_lists rows labels level marks stamp (mark_all met stamp list) lists)

-- the marked nodes are those that a node of the set refers to
pub record AreBelow (rows : List Row) (InSet : ℕ → Type 0) (marks : List ℕ) (stamp : ℕ) : Type 0 where
  pub sound : (m : ℕ) → is_marked marks stamp m ≡ true → (t : ℕ) × InSet t × Refers rows t m
  pub all : (t m : ℕ) → InSet t → Refers rows t m → is_marked marks stamp m ≡ true

-- no node is marked
abbrev pub NoneMarked : List ℕ → ℕ → Type 0
NoneMarked marks stamp = (m : ℕ) → is_marked marks stamp m ≡ false

-- no stamp is greater than this one
pub record AreUpTo (marks : List ℕ) (stamp : ℕ) : Type 0 where
  pub each : (m : ℕ) → slice_index_or marks m 0 ≤ stamp
