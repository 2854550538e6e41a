-- Paths read off as lists.
use Rattle.std.specs.Prelude.{◌≡◌, ◌≢◌, ℕ, ◌<◌, true, List, [], ◌∷◌, length, ⊤}
use Rattle.syn_rows.specs.declared.Row.{Row}
use Rattle.syn_paths.specs.declared.places.Next.{Next}
use Rattle.syn_paths.specs.declared.places.Next.TheVariants.{Off, Last, To}
use Rattle.syn_rows.specs.Nodes.{has_node}
use Rattle.syn_cones.specs.Cones.{is_end}
use Rattle.syn_paths.specs.Searching.{next_at}

-- what follows a node up to the last one
abbrev pub IsListFrom : List Next → ℕ → List ℕ → Type 0
IsListFrom next v [] = next_at next v ≡ Last
IsListFrom next v (w ∷ path) = (next_at next v ≡ To w) × IsListFrom next w path

-- the list is the path from a node
abbrev pub HasListFrom : List Next → ℕ → List ℕ → Type 0
HasListFrom next v list = (path : List ℕ) × (list ≡ v ∷ path) × IsListFrom next v path

-- each step goes on, up, to a node that stands there
pub record GoesUp (next : List Next) : Type 0 where
  pub on : (v w : ℕ) → next_at next v ≡ To w → next_at next w ≢ Off
  pub up : (v w : ℕ) → next_at next v ≡ To w → v < w
  pub there : (v w : ℕ) → next_at next v ≡ To w → w < length next

-- the lists are the paths from these nodes
abbrev pub AreLists : List Next → List ℕ → List (List ℕ) → Type 0
AreLists next [] [] = ⊤
AreLists next [] (list ∷ lists) = ⊥
AreLists next (s ∷ sources) [] = ⊥
AreLists next (s ∷ sources) (list ∷ lists) = HasListFrom next s list × AreLists next sources lists

-- each is a source on a path
abbrev pub AreSources : List Row → List Next → List ℕ → Type 0
AreSources rows next sources = (s : ℕ) → has_node sources s ≡ true → (is_end rows s ≡ true) × (next_at next s ≢ Off)
