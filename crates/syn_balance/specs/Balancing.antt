-- Nodes are balanced one after the other.
use Rattle.std.specs.Prelude.{◌≡◌, ℕ, ◌+◌, ◌-◌, ◌<◌, ◌≤◌, ◌⊎◌, Bool, true, List, [], ◌∷◌, length, Option, Some, None, IsSome}
use Rattle.std.specs.List.{sum_by}
use Rattle.std.specs.List.Sorted.{IsPermutation}
use Rattle.syn_rows.specs.declared.Lit.{Lit}
use Rattle.syn_rows.specs.declared.Row.{Row}
use Rattle.syn_hashed.specs.Visiting.{visited}
use Rattle.syn_balance.specs.Roots.{mark_at, refs_before}
use Rattle.syn_balance.specs.Leaves.{StandFor, plain, waiting_at, joins_of}
use Rattle.syn_balance.specs.Rule.{AreBalanced}

-- leaves stand for a node, and are those that the rule gives it, in some order
abbrev pub WaitFor : List Row → List Row → ℕ → List Lit → List Lit → Type 0
WaitFor rows new m by_rule leaves = StandFor rows new (plain m) leaves × IsPermutation by_rule leaves

-- The nodes below n are balanced, by the rule. Node 0 and the sources stand for themselves, and each marked node has its literal. At every other node leaves wait that stand for it, or a row below n has taken them. The new rows, and the ANDs that join what waits, are no more than n.
pub record IsBalancing (count : ℕ) (rows : List Row) (roots : List Bool) (n : ℕ) (literals : List (Option Lit)) (waiting : List (List Lit)) (new : List Row) : Type 0 where
  pub leaves : List (List Lit)
  pub rule : AreBalanced count rows roots (n - (count + 1)) (record { new = new; literals = literals; leaves = leaves })
  pub all_leaves : length leaves ≡ length rows
  pub all : length literals ≡ length rows
  pub all_wait : length waiting ≡ length rows
  pub front : (m : ℕ) → m < count + 1 → visited literals m ≡ Some (plain m)
  pub made : (m : ℕ) (l : Lit) → visited literals m ≡ Some l → StandFor rows new (plain m) (l ∷ [])
  pub waits : (m : ℕ) → m < n → visited literals m ≡ None → WaitFor rows new m (waiting_at leaves m) (waiting_at waiting m) ⊎ (0 < refs_before n rows m)
  pub rooted : (m : ℕ) → m < n → mark_at roots m ≡ true → IsSome (visited literals m)
  pub few : length new + sum_by joins_of waiting ≤ n
