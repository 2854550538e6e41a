-- Balancing's rule: which ANDs are joined again, of which leaves, and in which order.
use Rattle.std.specs.Prelude.{◌≡◌, ℕ, zero, suc, ◌+◌, ◌-◌, ◌<◌, ◌≤◌, ◌⊎◌, Bool, true, false, All, List, [], ◌∷◌, ◌++◌, length, map, replicate, set, Option, Some}
use Rattle.std.specs.List.Sorted.{IsPermutation}
use Rattle.syn_rows.specs.declared.Lit.{Lit}
use Rattle.syn_rows.specs.declared.Row.{Row}
use Rattle.syn_rows.specs.declared.Row.TheVariants.{Source, And}
use Rattle.syn_rows.specs.Rows.{row_at}
use Rattle.syn_hashed.specs.Growing.{level_by}
use Rattle.syn_hashed.specs.Joined.{joined_lit, joined_rows}
use Rattle.syn_hashed.specs.Visiting.{literal_of, FirstsOf}
use Rattle.syn_balance.specs.Roots.{mark_at, HasRoots}
use Rattle.syn_balance.specs.Leaves.{leaves_of, waiting_at}

-- the literal comes no later than the other: by level, then by number
abbrev pub ComesFirst : List Row → Lit → Lit → Type 0
ComesFirst rows a b = (level_by rows a < level_by rows b) ⊎ ((level_by rows a ≡ level_by rows b) × (a.0 ≤ b.0))

-- The two of the leaves that come first, whatever the order in which these are listed, become their AND.
pub record JoinsLeast (rows : List Row) (leaves : List Lit) (new : List Row) (left : List Lit) : Type 0 where
  pub a : Lit
  pub b : Lit
  pub others : List Lit
  pub among : IsPermutation leaves (a ∷ b ∷ others)
  pub first : All (ComesFirst rows a) (b ∷ others)
  pub second : All (ComesFirst rows b) others
  pub made : new ≡ joined_rows rows a b
  pub remain : IsPermutation (joined_lit rows a b ∷ others) left

-- so many times the two that come first became one
abbrev pub AreJoined : ℕ → List Row → List Lit → List Row → List Lit → Type 0
AreJoined zero rows leaves new left = (new ≡ rows) × IsPermutation leaves left
AreJoined (suc times) rows leaves new left = (mid : List Row) × (some : List Lit) × AreJoined times rows leaves mid some × JoinsLeast mid some new left

-- the leaves were joined until one was left
abbrev pub AreOne : List Row → List Lit → List Row → Lit → Type 0
AreOne rows leaves new l = (times : ℕ) × AreJoined times rows leaves new (l ∷ [])

-- what stands while nodes are balanced: the new rows, the literals that stand for old nodes, and the leaves of old nodes
pub record Balanced : Type 0 where
  pub new : List Row
  pub literals : List (Option Lit)
  pub leaves : List (List Lit)

-- Before any AND is balanced the new rows are node 0 and the sources, which stand for themselves.
pub record Begins (count : ℕ) (rows : List Row) (s : Balanced) : Type 0 where
  pub few : length s.new ≡ count + 1
  pub sources : (n : ℕ) → n < count + 1 → row_at s.new n ≡ Source
  pub literals : FirstsOf count (length rows) s.literals
  pub leaves : s.leaves ≡ replicate (length rows) []

-- An AND is balanced. Its leaves are those of its two fan-ins: the literal that stands for a fan-in, or where none does the leaves of its node. Where the AND is marked, its leaves are joined until one is left, which stands for it.
pub record BalancesNode (rows : List Row) (roots : List Bool) (n : ℕ) (old s : Balanced) : Type 0 where
  pub a : Lit
  pub b : Lit
  pub is : row_at rows n ≡ And a b
  pub leaves : s.leaves ≡ set old.leaves n (leaves_of old.literals old.leaves a ++ leaves_of old.literals old.leaves b)
  pub marked : mark_at roots n ≡ true → (l : Lit) × (s.literals ≡ set old.literals n (Some l)) × AreOne old.new (waiting_at s.leaves n) s.new l
  pub unmarked : mark_at roots n ≡ false → (s.literals ≡ old.literals) × (s.new ≡ old.new)

-- so many ANDs were balanced, in the order of their nodes
abbrev pub AreBalanced : ℕ → List Row → List Bool → ℕ → Balanced → Type 0
AreBalanced count rows roots zero s = Begins count rows s
AreBalanced count rows roots (suc done) s = (old : Balanced) × AreBalanced count rows roots done old × BalancesNode rows roots (count + 1 + done) old s

-- The rows that the rule makes of hashed rows over so many sources, and the literals for the observed ones.
pub record AreByRule (count : ℕ) (rows : List Row) (lits : List Lit) (new_rows : List Row) (new_lits : List Lit) : Type 0 where
  pub roots : List Bool
  pub marked : HasRoots rows lits roots
  pub s : Balanced
  pub balanced : AreBalanced count rows roots (length rows - (count + 1)) s
  pub made : new_rows ≡ s.new
  pub found : map (λ l. Some l) new_lits ≡ map (literal_of s.literals) lits
