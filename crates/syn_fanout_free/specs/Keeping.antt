-- The new rows that are kept, and the old nodes that they use, found in one sweep from the last new row down.
use Rattle.std.specs.Prelude.{◌≡◌, ℕ, ◌+◌, ◌-◌, ◌<◌, ◌≤◌, ◌⊎◌, nat_lt, if◌then◌else◌, Bool, true, List, length}
use Rattle.syn_rows.specs.declared.Row.{Row}
use Rattle.syn_rows.specs.Rows.{row_at}
use Rattle.syn_rows.specs.Values.{value_in}
use Rattle.syn_fanout_free.specs.Freed.{refers}
use Rattle.syn_rows.specs.Nodes.{has_node}

-- a new node that is marked, or an old one that is used; new nodes begin at first
abbrev pub noted : ℕ → List Bool → List ℕ → ℕ → Bool
noted first marks used m = if nat_lt m first then has_node used m else value_in marks (m - first)

-- m is referred to by the root's new row or by a marked new row
abbrev pub IsUsed : Row → List Row → List Bool → ℕ → Type 0
IsUsed row extra marks m = (refers row m ≡ true) ⊎ ((i : ℕ) × (value_in marks i ≡ true) × (refers (row_at extra i) m ≡ true))

-- the new rows from the one numbered left on are settled
pub record IsKeeping (first : ℕ) (row : Row) (extra : List Row) (left : ℕ) (marks : List Bool) (used : List ℕ) : Type 0 where
  pub count : length marks ≡ length extra
  pub root : (m : ℕ) → refers row m ≡ true → noted first marks used m ≡ true
  pub done : (i m : ℕ) → left ≤ i → value_in marks i ≡ true → refers (row_at extra i) m ≡ true → noted first marks used m ≡ true
  pub sound : (set : ℕ → Bool)
      → ((m : ℕ) → refers row m ≡ true → first ≤ m → set m ≡ true)
      → ((i m : ℕ) → set (first + i) ≡ true → refers (row_at extra i) m ≡ true → first ≤ m → set m ≡ true)
      → (i : ℕ) → value_in marks i ≡ true → set (first + i) ≡ true
  pub using : (m : ℕ) → has_node used m ≡ true → (m < first) × IsUsed row extra marks m
