-- What is found for a node: one path more than a cut may have leaves, or the least cut.
use Rattle.std.specs.Prelude.{◌≡◌, ℕ, ◌+◌, ◌<◌, ◌≤◌, if◌then◌else◌, true, false, List, length}
use Rattle.syn_rows.specs.declared.Row.{Row}
use Rattle.syn_rows.specs.Nodes.{has_node}
use Rattle.syn_hashed.specs.Hashed.{IsHashed}
use Rattle.syn_cones.specs.Walk.{put_node, rises}
use Rattle.syn_paths.specs.declared.places.Place.{Place}
use Rattle.syn_paths.specs.declared.places.Place.TheVariants.{In, Out}
use Rattle.syn_paths.specs.declared.places.Step.{Step}
use Rattle.syn_paths.specs.declared.node_cut.Outcome.{Outcome}
use Rattle.syn_paths.specs.declared.node_cut.Outcome.TheVariants.{Paths, Cut}
use Rattle.syn_paths.specs.Tops.{IsInTop, label_in}
use Rattle.syn_paths.specs.Paths.{ArePathsInto}
use Rattle.syn_paths.specs.LeastCuts.{IsLeastCut}
use Rattle.syn_paths.specs.Checking.{is_marked}
use Rattle.syn_paths.specs.Searching.{place_at}

-- rows that are hashed over some sources
abbrev pub AreHashed : List Row → Type 0
AreHashed rows = (count : ℕ) × IsHashed count rows

-- the least cut outside the top, of at most k leaves, which are nodes before the root, not the constant, and below the level
pub record IsOwnCut (rows : List Row) (labels : List ℕ) (root level k : ℕ) (leaves : List ℕ) : Type 0 where
  pub least : IsLeastCut rows (label_in labels) root level leaves
  pub few : length leaves ≤ k
  pub within : (v : ℕ) → has_node leaves v ≡ true → (0 < v) × (v < root) × (label_in labels v < level)

abbrev pub IsOutcome : List Row → List ℕ → ℕ → ℕ → ℕ → Outcome → Type 0
IsOutcome rows labels root level k (Paths lists) = ArePathsInto rows (IsInTop rows (label_in labels) root level) (k + 1) lists
IsOutcome rows labels root level k (Cut leaves) = IsOwnCut rows labels root level k leaves.items

-- a node is reached and not entered, by the first so many places of the trail
abbrev pub IsLeafOf : List Step → List ℕ → ℕ → ℕ → ℕ → Type 0
IsLeafOf trail ins stamp limit v = (i : ℕ) × (i < limit) × (place_at trail i ≡ Out v) × (is_marked ins stamp v ≡ false)

-- leaves with the node of a place, where it is one
abbrev pub with_leaf : List ℕ → ℕ → List ℕ → Place → List ℕ
with_leaf ins stamp leaves (In v) = leaves
with_leaf ins stamp leaves (Out v) = if is_marked ins stamp v then leaves else put_node v leaves

-- the leaves by the first so many places, rising
pub record AreLeavesTo (trail : List Step) (ins : List ℕ) (stamp limit : ℕ) (leaves : List ℕ) : Type 0 where
  pub rise : rises leaves ≡ true
  pub leaf : (v : ℕ) → has_node leaves v ≡ true → IsLeafOf trail ins stamp limit v
  pub all : (v : ℕ) → IsLeafOf trail ins stamp limit v → has_node leaves v ≡ true
