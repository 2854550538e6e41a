-- The leftovers of a definition of proposals: of each AND the first proposal that saves, if one does.
use Rattle.std.specs.Prelude.{◌≡◌, ℕ, zero, suc, ◌+◌, ◌-◌, ◌<◌, ◌≤◌, true, All, List, [], ◌++◌, length, map, slice_index_or, Option, Some, None, option_to_list}
use Rattle.syn_rows.specs.declared.Lit.{Lit}
use Rattle.syn_rows.specs.declared.Row.{Row}
use Rattle.syn_rows.specs.Rows.{row_at}
use Rattle.syn_rows.specs.Reach.{is_and}
use Rattle.syn_gain.specs.Proposals.{replacement}
use Rattle.syn_gain.specs.Replacements.{Replacement}
use Rattle.syn_proposals.specs.declared.remaining.Part.{Part}
use Rattle.syn_proposals.specs.Closing.{IsFirst, SavesNothing}
use Rattle.syn_proposals.specs.Sound.{IsSound}

-- What a node adds: nothing where it is no AND or none of its proposals saves, else the first of them that saves.
abbrev pub IsAddedBy : List Row → List Lit → (ℕ → List Replacement) → ℕ → Option Replacement → Type 0
IsAddedBy rows observed proposals node None = is_and (row_at rows node) ≡ true → All (SavesNothing rows observed) (proposals node)
IsAddedBy rows observed proposals node (Some r) = (is_and (row_at rows node) ≡ true) × (r.root ≡ node) × IsFirst rows observed (proposals node) r

-- The list is what the nodes at so many places from one on add, in order.
abbrev pub AreLeftovers : List Row → List Lit → (ℕ → List Replacement) → (ℕ → ℕ) → ℕ → ℕ → List Replacement → Type 0
AreLeftovers rows observed proposals node from zero all = all ≡ []
AreLeftovers rows observed proposals node from (suc n) all =
    (before : List Replacement) × (last : Option Replacement)
    × AreLeftovers rows observed proposals node from n before × IsAddedBy rows observed proposals (node (from + n)) last × (all ≡ before ++ option_to_list last)

-- The node at a place of a list.
abbrev pub listed : List ℕ → ℕ → ℕ
listed nodes place = slice_index_or nodes place 0

-- The list is the first so many nodes.
abbrev pub AreFirst : ℕ → List ℕ → Type 0
AreFirst count nodes = (length nodes ≡ count) × ((k : ℕ) → k < count → listed nodes k ≡ k)

-- A part of a list of nodes, with its leftovers.
pub record IsPartOf (rows : List Row) (observed : List Lit) (proposals : ℕ → List Replacement) (nodes : List ℕ) (part : Part) : Type 0 where
  pub order : part.from ≤ part.to
  pub within : part.to ≤ length nodes
  pub all : AreLeftovers rows observed proposals (listed nodes) part.from (part.to - part.from) (map replacement part.found.items)
  pub sound : All (IsSound rows) part.found.items
