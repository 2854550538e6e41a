-- Tables of nodes by the first eight sources, for given values of the others.
use Rattle.std.specs.Prelude.{◌≡◌, ◌==◌, ℕ, zero, suc, ◌-◌, ◌<◌, nat_lt, if◌then◌else◌, All, Bool, false, true, List, length, slice_index_or}
use Rattle.std.specs.Int.{bit_at}
use Rattle.syn_rows.specs.declared.Lit.{Lit}
use Rattle.syn_rows.specs.declared.Row.{Row}
use Rattle.syn_rows.specs.Rows.{node_of}
use Rattle.syn_rows.specs.Values.{Fits, is_open, lit_value, row_value, value_in, values_of}
use Rattle.syn_hashed.specs.Hashed.{lit_at}
use Rattle.syn_truth.specs.declared.Truth.{Truth}
use Rattle.syn_truth.specs.Truth.{AtEach, value_of}

-- the values of node 0 and the sources: the first eight have those of a list, the others are bits of the round's number
abbrev pub sources_at : ℕ → List Bool → ℕ → Bool
sources_at round xs zero = false
sources_at round xs (suc s) = if nat_lt s 8 then slice_index_or xs s false else bit_at round (s - 8) == 1

-- the values of all nodes by these
abbrev pub nodes_at : List Row → ℕ → List Bool → ℕ → Bool
nodes_at rows round xs = value_in (values_of (sources_at round xs) rows)

-- at these values of the variables the tables have the values of the first nodes
abbrev pub AreTables : List Truth → (ℕ → Bool) → List Bool → Type 0
AreTables tables v xs = (n : ℕ) (d : Truth) → n < length tables → value_of (slice_index_or tables n d) xs ≡ v n

-- The tables of all nodes in a round.
pub record HasTables (rows : List Row) (round : ℕ) (tables : List Truth) : Type 0 where
  pub long : length tables ≡ length rows
  pub vars : All (λ t. t.vars ≡ 8) tables
  pub values : (xs : List Bool) → length xs ≡ 8 → AreTables tables (nodes_at rows round xs) xs

-- A table has the values of a row, where the other tables have those of the nodes before it. Sources are few.
abbrev pub IsTableOf : List Truth → ℕ → ℕ → Row → Truth → Type 0
IsTableOf tables round node row t =
    (v : ℕ → Bool) → AtEach 8 (λ xs. AreTables tables v xs → (is_open row ≡ true → node < 41) → value_of t xs ≡ row_value (sources_at round xs) v node row)

-- at these values a node has the value of a literal, whose node is there
abbrev pub IsAlike : List Row → ℕ → List Bool → ℕ → Lit → Type 0
IsAlike rows round xs n l = (node_of l < length rows) × (nodes_at rows round xs n ≡ lit_value (nodes_at rows round xs) l)

-- in a round each node has the value of its literal
abbrev pub AreAlike : List Row → ℕ → List Lit → Type 0
AreAlike rows round alike = (xs : List Bool) (n : ℕ) → length xs ≡ 8 → n < length rows → IsAlike rows round xs n (lit_at alike n)

-- the first nodes have the values of their literals
abbrev pub AreAlikeIn : (ℕ → Bool) → ℕ → List Lit → Type 0
AreAlikeIn v count alike = (n : ℕ) → n < count → v n ≡ lit_value v (lit_at alike n)

-- in each valuation that fits all nodes do
abbrev pub AllAlike : List Row → List Lit → Type 0
AllAlike rows alike = (v : ℕ → Bool) → Fits rows v → AreAlikeIn v (length rows) alike
