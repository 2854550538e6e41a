-- Graphs after proposals that were judged on the graph as it is: one alone, or many together.
use Rattle.std.specs.Prelude.{◌≡◌, ◌≢◌, ℕ, zero, suc, ◌+◌, ◌<◌, ◌≤◌, ◌⊎◌, Bool, false, true, List, [], ◌∷◌, ◌++◌, length, map, slice_index_or}
use Rattle.syn_rows.specs.declared.Lit.{Lit}
use Rattle.syn_rows.specs.declared.Row.{Row}
use Rattle.syn_rows.specs.declared.Row.TheVariants.{Source, And}
use Rattle.syn_rows.specs.Reach.{is_and}
use Rattle.syn_rows.specs.Rows.{row_at}
use Rattle.syn_rows.specs.Joining.{constant, lit_of}
use Rattle.syn_hashed.specs.Joined.{joined_lit, joined_rows}
use Rattle.syn_hashed.specs.HashedAgain.{IsExactCompaction, IsHashedAgain}
use Rattle.syn_graph.specs.declared.Graph.{Graph}
use Rattle.syn_placing.specs.Placing.{PlacedGates, placed_gates}
use Rattle.syn_gain.specs.declared.proposals.Proposal.{Proposal}
use Rattle.syn_gain.specs.Placing.{each_below, literal_for}
use Rattle.syn_gain.specs.Replacements.{Replacement, rows_after_by}
use Rattle.syn_apply.specs.Remaking.{moved}

-- One proposal alone: the rows after it, compacted.
abbrev pub IsAppliedAlone : Graph → Replacement → Graph → Type 0
IsAppliedAlone was r now = IsExactCompaction was.source_count (rows_after_by was.rows r) was.observed now.rows now.observed

-- what stands while rows are made again: the new rows, and the literals that stand for the first of the old nodes
pub record Remade : Type 0 where
  pub rows : List Row
  pub literals : List Lit

abbrev pub remade : List Row → List Lit → Remade
remade rows literals = record { rows = rows; literals = literals }

-- Before any: the new rows are node 0 and the sources.
pub record Begins (count : ℕ) (s : Remade) : Type 0 where
  pub few : length s.rows ≡ count + 1
  pub sources : (n : ℕ) → n < count + 1 → row_at s.rows n ≡ Source
  pub none : s.literals ≡ []

-- The next node is node 0 or a source, and stands for itself.
pub record StandsForItself (rows : List Row) (old s : Remade) : Type 0 where
  pub no_and : is_and (row_at rows (length old.literals)) ≡ false
  pub made : s ≡ remade old.rows (old.literals ++ lit_of (length old.literals) ∷ [])

-- The next node is an AND, and the literals that stand for its two are joined.
pub record IsJoinedAgain (rows : List Row) (old s : Remade) : Type 0 where
  pub a : Lit
  pub b : Lit
  pub is : row_at rows (length old.literals) ≡ And a b
  pub made : s ≡ remade (joined_rows old.rows (moved old.literals a) (moved old.literals b)) (old.literals ++ joined_lit old.rows (moved old.literals a) (moved old.literals b) ∷ [])

-- the literals that stand for leaves, of which there are so many
abbrev pub leaves_by : List Lit → ℕ → List ℕ → List Lit
leaves_by literals count leaves = each_below count (λ i. slice_index_or literals (slice_index_or leaves i 0) constant)

-- what a proposal's plan becomes over the literals that stand for its leaves
abbrev pub planned_gates : Remade → Proposal → PlacedGates
planned_gates old p = placed_gates old.rows (leaves_by old.literals p.plan.leaves p.leaves.items) p.plan.gates.items

-- The proposal that is the next one for a node: those before it are for nodes before that one, and it is not.
pub record IsNext (proposals : List Proposal) (node place : ℕ) : Type 0 where
  pub within : place ≤ length proposals
  pub passed : (i : ℕ) (d : Proposal) → i < place → (slice_index_or proposals i d).root < node
  pub waits : (d : Proposal) → place < length proposals → node ≤ (slice_index_or proposals place d).root

-- No proposal is taken for a node: the next one isn't taken, or is for another.
pub record NoneTaken (proposals : List Proposal) (taken : List Bool) (node : ℕ) : Type 0 where
  pub place : ℕ
  pub next : IsNext proposals node place
  pub other : (d : Proposal) → place < length proposals → slice_index_or taken place false ≡ true → (slice_index_or proposals place d).root ≢ node

-- The next node is the root of a taken proposal, and the output of its plan stands for it.
pub record IsPlanned (proposals : List Proposal) (taken : List Bool) (old s : Remade) : Type 0 where
  pub place : ℕ
  pub there : place < length proposals
  pub next : IsNext proposals (length old.literals) place
  pub is_taken : slice_index_or taken place false ≡ true
  pub p : Proposal
  pub at : slice_index_or proposals place p ≡ p
  pub root : p.root ≡ length old.literals
  pub made : s ≡ remade (planned_gates old p).rows (old.literals ++ literal_for (planned_gates old p).literals p.plan.out ∷ [])

-- the next node is made again in one of these ways
abbrev pub MakesNext : List Row → List Proposal → List Bool → Remade → Remade → Type 0
MakesNext rows proposals taken old s = StandsForItself rows old s ⊎ ((IsJoinedAgain rows old s × NoneTaken proposals taken (length old.literals)) ⊎ IsPlanned proposals taken old s)

-- so many nodes were made again, from node 0 up
abbrev pub AreRemade : ℕ → List Row → List Proposal → List Bool → ℕ → Remade → Type 0
AreRemade count rows proposals taken zero s = Begins count s
AreRemade count rows proposals taken (suc n) s = (old : Remade) × AreRemade count rows proposals taken n old × MakesNext rows proposals taken old s

-- Many together: the rows made again with the plans of the taken ones in place of their roots, compacted.
pub record AreAppliedTogether (was : Graph) (proposals : List Proposal) (taken : List Bool) (now : Graph) : Type 0 where
  pub s : Remade
  pub made : AreRemade was.source_count was.rows proposals taken (length was.rows) s
  pub compact : IsHashedAgain was.source_count s.rows (map (moved s.literals) was.observed) now.rows now.observed
