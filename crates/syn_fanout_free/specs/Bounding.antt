-- A bound of what a replacement saves, which asks for no hit of its plan.
use Rattle.std.specs.Prelude.{◌≡◌, ◌≢◌, ◌⊎◌, ℕ, ◌<◌, ◌≤◌, Bool, true, List, length, ℤ, pos, ◌+ℤ◌, ◌≤ℤ◌}
use Rattle.syn_rows.specs.declared.Lit.{Lit}
use Rattle.syn_rows.specs.declared.Row.{Row}
use Rattle.syn_rows.specs.Nodes.{has_node}
use Rattle.syn_rows.specs.Rows.{row_at}
use Rattle.syn_fanout_free.specs.Freed.{FreesByCount, IsFreedByCount, IsKept, added, lost, refers, uses}
use Rattle.syn_fanout_free.specs.Freeing.{open_to}
use Rattle.syn_fanout_free.specs.Saved.{IsExtra, IsOwned, IsSaved, replaced}

-- So many ANDs go with the row of n where only these nodes stay: that of n, and the freed ones.
pub record IsMffcSize (was : List Row) (counts : ℕ → ℕ) (n : ℕ) (spared : List ℕ) (k : ℕ) : Type 0 where
  pub freed : ℕ → Bool
  pub freeing : IsFreedByCount was counts n (open_to was n spared) freed
  pub lost : k ≡ lost was n freed

-- No more ANDs go with the row of n where only these nodes stay: those of some set that obeys the rule of freeing are no more.
pub record IsMostLost (was : List Row) (counts : ℕ → ℕ) (n : ℕ) (spared : List ℕ) (k : ℕ) : Type 0 where
  pub freed : ℕ → Bool
  pub frees : FreesByCount was counts n (open_to was n spared) freed
  pub most : lost was n freed ≤ k

-- A node is held: it is used, or the row of a used node other than n refers to it.
abbrev pub IsHeld : List Row → ℕ → (ℕ → Bool) → ℕ → Type 0
IsHeld was n used m = (used m ≡ true) ⊎ ((p : ℕ) × (used p ≡ true) × (p ≢ n) × (refers (row_at was p) m ≡ true))

-- Where the kept new rows hold the spared nodes, the saved ANDs and the new ones that are kept are at most those that go where only the spared nodes stay.
abbrev pub SavedIsBounded : Type 0
SavedIsBounded =
    (was : List Row) (observed : List Lit) (counts : ℕ → ℕ) (n : ℕ) (row : Row) (extra : List Row) (kept : ℕ → Bool) (spared : List ℕ) (k : ℕ) (s : ℤ)
    → n < length was → IsOwned was observed counts n → IsExtra (length was) row extra → IsKept was (replaced was n row extra) n kept
    → ((m : ℕ) → has_node spared m ≡ true → IsHeld was n (uses was (replaced was n row extra) n kept) m)
    → IsMostLost was counts n spared k → IsSaved was (replaced was n row extra) observed s
    → (s +ℤ pos (added was (replaced was n row extra) n kept)) ≤ℤ pos k
