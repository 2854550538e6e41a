-- The listed cuts of a worked graph: three sources, 4 = And(2, 4), 5 = And(2, 6), 6 = And(9, 11).
use Rattle.std.specs.Prelude.{◌≡◌, ℕ, List, [], ◌∷◌, slice_index_or}
use Rattle.syn_rows.specs.declared.Lit.{Lit}
use Rattle.syn_rows.specs.declared.Row.{Row}
use Rattle.syn_rows.specs.declared.Row.TheVariants.{Source, And}
use Rattle.syn_cuts.specs.Cuts.{listed_cuts}

abbrev lit : ℕ → Lit
lit n = record { 0 = n }

abbrev rows : List Row
rows = Source ∷ Source ∷ Source ∷ Source ∷ And (lit 2) (lit 4) ∷ And (lit 2) (lit 6) ∷ And (lit 9) (lit 11) ∷ []

-- the listed cuts of a node with at most k leaves
abbrev cuts : ℕ → ℕ → List (List ℕ)
cuts k n = slice_index_or (listed_cuts k rows) n []

pub record Worked : Type 0 where
  pub source : cuts 4 1 ≡ (1 ∷ []) ∷ []
  pub fourth : cuts 4 4 ≡ (1 ∷ 2 ∷ []) ∷ (4 ∷ []) ∷ []
  pub fifth : cuts 4 5 ≡ (1 ∷ 3 ∷ []) ∷ (5 ∷ []) ∷ []
  pub sixth : cuts 4 6 ≡ (4 ∷ 5 ∷ []) ∷ (1 ∷ 2 ∷ 3 ∷ []) ∷ (1 ∷ 2 ∷ 5 ∷ []) ∷ (1 ∷ 3 ∷ 4 ∷ []) ∷ (6 ∷ []) ∷ []
  pub sixth_of_two : cuts 2 6 ≡ (4 ∷ 5 ∷ []) ∷ (6 ∷ []) ∷ []
