-- The fan-outs of a node: the ANDs whose second, greater fan-in it is.
use Rattle.std.specs.Prelude.{◌≡◌, ℕ, suc, ◌<◌, ◌≤◌, ◌==◌, ◌⊎◌, Bool, true, false, List, length, slice_index_or}
use Rattle.syn_rows.specs.declared.Row.{Row}
use Rattle.syn_rows.specs.declared.Row.TheVariants.{Free, Source, And, Alias}
use Rattle.syn_rows.specs.Rows.{node_of, row_at}
use Rattle.syn_resub.specs.declared.fan_outs.FanOuts.{FanOuts}

-- the row is an AND whose second fan-in is the node d
abbrev pub is_over : ℕ → Row → Bool
is_over d Free = false
is_over d Source = false
is_over d (And a b) = node_of b == d
is_over d (Alias a) = false

-- no row from number low on, and below number high, is over d
abbrev pub NoneOver : List Row → ℕ → ℕ → ℕ → Type 0
NoneOver rows d low high = (p : ℕ) → low ≤ p → p < high → is_over d (row_at rows p) ≡ false

-- m is the first row over d from number low on; where there is none, it is the number of rows
pub record IsFirstOver (rows : List Row) (d low m : ℕ) : Type 0 where
  pub none : NoneOver rows d low m
  pub over : (m ≡ length rows) ⊎ ((low ≤ m) × (m < length rows) × (is_over d (row_at rows m) ≡ true))

-- For each node the first row over it, and for each AND the first one behind it over the same second fan-in.
pub record AreFanOuts (fan_outs : FanOuts) (rows : List Row) : Type 0 where
  pub count : length fan_outs.first.items ≡ length rows
  pub count_next : length fan_outs.next.items ≡ length rows
  pub first : (d : ℕ) → d < length rows → IsFirstOver rows d 0 (slice_index_or fan_outs.first.items d 0)
  pub next : (d m : ℕ) → m < length rows → is_over d (row_at rows m) ≡ true → IsFirstOver rows d (suc m) (slice_index_or fan_outs.next.items m 0)

-- The same of the rows from number low on, while they are listed from the last one down.
pub record AreListedFrom (first next : List ℕ) (rows : List Row) (low : ℕ) : Type 0 where
  pub count : length first ≡ length rows
  pub count_next : length next ≡ length rows
  pub first_over : (d : ℕ) → d < length rows → IsFirstOver rows d low (slice_index_or first d 0)
  pub next_over : (d m : ℕ) → low ≤ m → m < length rows → is_over d (row_at rows m) ≡ true → IsFirstOver rows d (suc m) (slice_index_or next m 0)
