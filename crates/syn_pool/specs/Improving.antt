-- What a pass leaves of a graph.
use Rattle.std.specs.Prelude.{◌≡◌, ℕ, ◌≤◌, Bool, true, false, List, length}
use Rattle.syn_rows.specs.declared.Row.{Row}
use Rattle.syn_graph.specs.declared.Graph.{Graph}
use Rattle.syn_graph.specs.Relations.{SameFunction}
use Rattle.syn_gain.specs.Replacements.{Replacement}
use Rattle.syn_levels.specs.Levels.{IsNoDeeper, keeping}
use Rattle.syn_proposals.specs.Closing.{Closed}

-- the proposals that a pass goes by: all, or, where levels are kept, those that keep their root's level
abbrev pub allowed : Bool → (List Row → ℕ → List Replacement) → List Row → ℕ → List Replacement
allowed false proposals = proposals
allowed true proposals = keeping proposals

-- What a pass leaves of a graph, by the proposals and by whether levels are kept.
pub record IsImproved (proposals : List Row → ℕ → List Replacement) (kept : Bool) (was now : Graph) : Type 0 where
  -- the same function
  pub same : SameFunction was now
  -- no more ANDs, as the other rows are one for each source
  pub count : length now.rows ≤ length was.rows
  -- where levels are kept, no observed signal is deeper
  pub levels : kept ≡ true → IsNoDeeper was now
  -- none of the proposals that the pass goes by saves
  pub closed : Closed now.rows now.observed (allowed kept proposals now.rows)
