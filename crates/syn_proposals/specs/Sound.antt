-- Sound proposals, and those that are left over.
use Rattle.std.specs.Prelude.{◌≡◌, ℕ, ◌⊎◌, All, Bool, List, [], ◌∷◌, length}
use Rattle.syn_rows.specs.declared.Lit.{Lit}
use Rattle.syn_rows.specs.declared.Row.{Row}
use Rattle.syn_gain.specs.declared.proposals.Proposal.{Proposal}
use Rattle.syn_gain.specs.Proposals.{replacement}
use Rattle.syn_gain.specs.Replacements.{Replacement}
use Rattle.syn_graph.specs.declared.Graph.{Graph}
use Rattle.syn_apply.specs.Applied.{AreAppliedTogether, IsAppliedAlone}
use Rattle.syn_apply.specs.Sound.{IsSoundBy}
use Rattle.syn_proposals.specs.Closing.{IsFirstOf, SavesSome}

-- the leaves are a cut of the root, and the plan computes the root's truth over them
abbrev pub IsSound : List Row → Proposal → Type 0
IsSound rows p = IsSoundBy rows (replacement p)

-- A proposal that is left over: the first of its root's that saves, and sound.
pub record IsLeftover (rows : List Row) (observed : List Lit) (proposals : ℕ → List Replacement) (p : Proposal) : Type 0 where
  pub first : IsFirstOf rows observed proposals (replacement p)
  pub sound : IsSound rows p

-- a sound proposal that saves
abbrev pub IsSoundSaving : Graph → Proposal → Type 0
IsSoundSaving was p = IsSound was.rows p × SavesSome was.rows was.observed (replacement p)

-- Of these proposals the first was applied alone, or those with a mark together.
abbrev pub AppliesSome : Graph → List Proposal → Graph → Type 0
AppliesSome was [] now = ⊥
AppliesSome was (p ∷ more) now = IsAppliedAlone was (replacement p) now ⊎ ((marks : List Bool) × (length marks ≡ length (p ∷ more)) × AreAppliedTogether was (p ∷ more) marks now)
