-- The walk from the observed literals: a node is entered, and left once all that it refers to was left. The steps that wait are a list with the next one at its end.
use Rattle.std.specs.Prelude.{◌≡◌, ◌⊎◌, ℕ, ◌<◌, Bool, true, All, List, [], ◌∷◌, ◌++◌, length, Option, IsSome, ⊤}
use Rattle.syn_rows.specs.declared.Lit.{Lit}
use Rattle.syn_rows.specs.declared.Row.{Row}
use Rattle.syn_rows.specs.declared.Row.TheVariants.{Free, Source, And, Alias}
use Rattle.syn_rows.specs.Rows.{node_of, row_at, AllRefs, Rises}
use Rattle.syn_rows.specs.Values.{value_in}
use Rattle.syn_rows.specs.Reach.{Reached}
use Rattle.syn_hashed.specs.declared.visit.Step.{Step}
use Rattle.syn_hashed.specs.declared.visit.Step.TheVariants.{Enter, Leave}
use Rattle.syn_hashed.specs.Visiting.{visited}

-- the node that a step is of
abbrev pub node_in : Step → ℕ
node_in (Enter n) = n
node_in (Leave n) = n

-- the steps that a node's row needs: its first fan-in is entered next, then its second, then the node is left
abbrev pub steps_of : ℕ → Row → List Step
steps_of n Free = []
steps_of n Source = []
steps_of n (And a b) = Leave n ∷ Enter (node_of b) ∷ Enter (node_of a) ∷ []
steps_of n (Alias a) = Leave n ∷ Enter (node_of a) ∷ []

-- the first steps: each literal's node is entered, the first one's next
abbrev pub enters : List Lit → List Step
enters [] = []
enters (l ∷ ls) = enters ls ++ Enter (node_of l) ∷ []

-- some step of the node waits
abbrev pub Awaits : List Step → ℕ → Type 0
Awaits [] m = ⊥
Awaits (s ∷ ss) m = (node_in s ≡ m) ⊎ Awaits ss m

-- the node waits to be left
abbrev pub Leaves : List Step → ℕ → Type 0
Leaves [] m = ⊥
Leaves (s ∷ ss) m = (s ≡ Leave m) ⊎ Leaves ss m

-- all steps are of nodes of smaller rank
abbrev pub RankBelow : (ℕ → ℕ) → ℕ → List Step → Type 0
RankBelow rank k [] = ⊤
RankBelow rank k (s ∷ ss) = (rank (node_in s) < k) × RankBelow rank k ss

-- the node was visited, or a step of it waits
abbrev pub IsKnown : List (Option Lit) → List Step → ℕ → Type 0
IsKnown literals steps m = IsSome (visited literals m) ⊎ Awaits steps m

-- before a node is left, nothing but steps of nodes of smaller rank is done, and among them are all that it refers to and that wasn't visited yet
abbrev pub InTurn : List Row → (ℕ → ℕ) → List (Option Lit) → List Step → Type 0
InTurn rows rank literals [] = ⊤
InTurn rows rank literals (Enter n ∷ ss) = InTurn rows rank literals ss
InTurn rows rank literals (Leave n ∷ ss) = RankBelow rank (rank n) ss × AllRefs (IsKnown literals ss) (row_at rows n) × InTurn rows rank literals ss

-- what was visited, but for node 0 and the sources, is reached
abbrev pub VisitsReached : ℕ → List Row → List Lit → List (Option Lit) → Type 0
VisitsReached count rows lits literals = (n : ℕ) → count < n → IsSome (visited literals n) → Reached rows lits n

-- The walk stands here: what waits or was visited is reached, each observed node is known, a marked node was visited or waits to be left, and the steps are in turn.
pub record IsVisitingWalk (count : ℕ) (rows : List Row) (lits : List Lit) (literals : List (Option Lit)) (marks : List Bool) (steps : List Step) : Type 0 where
  pub all : length marks ≡ length rows
  pub waiting : All (λ s. Reached rows lits (node_in s)) steps
  pub reached : VisitsReached count rows lits literals
  pub begun : All (λ l. IsKnown literals steps (node_of l)) lits
  pub marked : (n : ℕ) → value_in marks n ≡ true → IsSome (visited literals n) ⊎ Leaves steps n
  pub turns : (rank : ℕ → ℕ) × Rises rows rank × InTurn rows rank literals steps
