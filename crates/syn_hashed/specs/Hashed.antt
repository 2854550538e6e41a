-- Hashed rows: node 0 is the constant 0, then come the sources, then ANDs of smaller nodes, no two of the same pair.
use Rattle.std.specs.Prelude.{◌≡◌, ℕ, ◌+◌, ◌<◌, ◌≢◌, ◌&&◌, ◌==◌, not, nat_le, nat_lt, Bool, true, false, List, length, slice_index_or}
use Rattle.syn_rows.specs.declared.Lit.{Lit}
use Rattle.syn_rows.specs.declared.Row.{Row}
use Rattle.syn_rows.specs.declared.Row.TheVariants.{Free, Source, And, Alias}
use Rattle.syn_rows.specs.Rows.{node_of, row_at}

-- the row is an AND of two different nodes below n, neither of them the constant, the smaller literal first
abbrev pub is_gate : ℕ → Row → Bool
is_gate n Free = false
is_gate n Source = false
is_gate n (And a b) = nat_le 2 a.0 && (nat_lt a.0 b.0 && (not (node_of a == node_of b) && nat_lt (node_of b) n))
is_gate n (Alias a) = false

-- Hashed rows over so many sources: node 0 and the sources, then such ANDs, no two of the same pair.
pub record IsHashed (count : ℕ) (rows : List Row) : Type 0 where
  pub there : count < length rows
  pub front : (n : ℕ) → n < count + 1 → row_at rows n ≡ Source
  pub gates : (n : ℕ) → count < n → n < length rows → is_gate n (row_at rows n) ≡ true
  pub once : (m n : ℕ) → count < m → m < n → n < length rows → row_at rows m ≢ row_at rows n

-- the literal at a place of a list, constant 0 past its end
abbrev pub lit_at : List Lit → ℕ → Lit
lit_at lits i = slice_index_or lits i (record { 0 = 0 })
