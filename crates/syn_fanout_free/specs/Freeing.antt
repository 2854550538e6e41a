-- How the freed rows are found, from the greatest node down, by counting references.
use Rattle.std.specs.Prelude.{◌≡◌, ℕ, ◌+◌, ◌<◌, ◌≤◌, ◌&&◌, ◌==◌, not, Bool, true, List, length}
use Rattle.syn_rows.specs.declared.Row.{Row}
use Rattle.syn_rows.specs.Rows.{row_at, is_derived}
use Rattle.syn_rows.specs.Reach.{is_and}
use Rattle.syn_rows.specs.References.{refs}
use Rattle.syn_fanout_free.specs.Freed.{refs_from, FreesByCount, count_below}
use Rattle.syn_rows.specs.Nodes.{has_node}

-- each AND and alias is referred to
abbrev pub AllReferred : List Row → (ℕ → ℕ) → Type 0
AllReferred rows counts = (m : ℕ) → is_derived (row_at rows m) ≡ true → 1 ≤ counts m

-- the nodes that may be freed: ANDs and aliases other than n that are not used
abbrev pub open_to : List Row → ℕ → List ℕ → ℕ → Bool
open_to rows n used m = is_derived (row_at rows m) && (not (m == n) && not (has_node used m))

-- the ANDs of a list of nodes
abbrev pub ands_among : List Row → List ℕ → ℕ
ands_among rows nodes = count_below (length rows) (λ m. is_and (row_at rows m) && has_node nodes m)

-- the references to m from the old row of n and from dead rows
abbrev pub refs_from_dead : List Row → ℕ → List ℕ → ℕ → ℕ
refs_from_dead rows n dead m = refs m (row_at rows n) + refs_from rows (λ p. has_node dead p && not (p == n)) m

-- each of the nodes is freed: it is in every set that obeys the rule of freeing by counts
abbrev pub AreFreed : List Row → (ℕ → ℕ) → ℕ → (ℕ → Bool) → List ℕ → Type 0
AreFreed rows counts n may nodes = (set : ℕ → Bool) → FreesByCount rows counts n may set → (m : ℕ) → has_node nodes m ≡ true → set m ≡ true

-- All nodes from the bound on are settled; those below wait, as often as the old row of n and dead rows refer to them.
pub record IsFreeing (rows : List Row) (counts : ℕ → ℕ) (n : ℕ) (may : ℕ → Bool) (bound : ℕ) (dead : List ℕ) (waits : ℕ → ℕ) : Type 0 where
  pub waiting : (m : ℕ) → m < bound → waits m ≡ refs_from_dead rows n dead m
  pub gone : (m : ℕ) → bound ≤ m → waits m ≡ 0
  pub settled : (m : ℕ) → bound ≤ m → may m ≡ true → counts m ≤ refs_from_dead rows n dead m → has_node dead m ≡ true
  pub sound : (set : ℕ → Bool) → FreesByCount rows counts n may set → (m : ℕ) → has_node dead m ≡ true → set m ≡ true
  pub high : (m : ℕ) → has_node dead m ≡ true → bound ≤ m
  pub top : bound ≤ n

-- A node was taken that waited so many times; what waits is below it.
pub record IsTaken (rows : List Row) (counts : ℕ → ℕ) (n : ℕ) (may : ℕ → Bool) (node : ℕ) (often : ℕ) (dead : List ℕ) (waits : ℕ → ℕ) : Type 0 where
  pub below : node < n
  pub counted : often ≡ refs_from_dead rows n dead node
  pub waiting : (m : ℕ) → m < node → waits m ≡ refs_from_dead rows n dead m
  pub gone : (m : ℕ) → node ≤ m → waits m ≡ 0
  pub settled : (m : ℕ) → node < m → may m ≡ true → counts m ≤ refs_from_dead rows n dead m → has_node dead m ≡ true
  pub sound : (set : ℕ → Bool) → FreesByCount rows counts n may set → (m : ℕ) → has_node dead m ≡ true → set m ≡ true
  pub high : (m : ℕ) → has_node dead m ≡ true → node < m
