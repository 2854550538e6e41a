-- Paths into the top of a node, by what comes behind each node.
use Rattle.std.specs.Prelude.{◌≡◌, ◌≢◌, ◌⊎◌, ℕ, ◌<◌, true, List}
use Rattle.syn_rows.specs.declared.Row.{Row}
use Rattle.syn_paths.specs.declared.places.Next.{Next}
use Rattle.syn_paths.specs.declared.places.Next.TheVariants.{Off}
use Rattle.syn_cones.specs.Cones.{is_end, Refers}
use Rattle.syn_paths.specs.Tops.{IsInTop}
use Rattle.syn_paths.specs.Augmenting.{IsFlow}
use Rattle.syn_paths.specs.Tops.{label_in}
use Rattle.syn_paths.specs.Searching.{IsStart, next_at}

-- The starts are what the top's nodes refer to outside the top.
pub record AreStarts (rows : List Row) (labels : List ℕ) (root level : ℕ) (starts : List ℕ) : Type 0 where
  pub low : (v : ℕ) → IsStart starts v → label_in labels v < level
  pub below : (v : ℕ) → IsStart starts v → (t : ℕ) × IsInTop rows (label_in labels) root level t × Refers rows t v
  pub all : (t v : ℕ) → IsInTop rows (label_in labels) root level t → Refers rows t v → (IsInTop rows (label_in labels) root level v → ⊥) → IsStart starts v

-- What comes behind each node is disjoint paths into the top, over nodes before the node and below the level.
pub record ArePaths (rows : List Row) (labels : List ℕ) (root level : ℕ) (next : List Next) : Type 0 where
  pub flow : IsFlow rows (IsInTop rows (label_in labels) root level) (next_at next)
  pub low : (v : ℕ) → next_at next v ≢ Off → (v < root) × (label_in labels v < level)

-- The source was on no path, and is on one; no other is that wasn't.
pub record IsAdded (rows : List Row) (next after : List Next) (s : ℕ) : Type 0 where
  pub source : is_end rows s ≡ true
  pub off : next_at next s ≡ Off
  pub on : next_at after s ≢ Off
  pub only : (v : ℕ) → is_end rows v ≡ true → next_at after v ≢ Off → (next_at next v ≢ Off) ⊎ (v ≡ s)
