-- Rows as numbers: what is found of rows is told apart by them.
use Rattle.std.specs.Prelude.{ℕ, zero, suc, All, List, [], ◌∷◌, drop, slice_index_or}
use Rattle.syn_rows.specs.declared.Row.{Row}
use Rattle.syn_rows.specs.declared.Row.TheVariants.{Free, Source, And, Alias}
use Rattle.syn_cuts.specs.Lists.{IsFound}

-- a row's kind and the words of its literals, before others
abbrev pub with_row : Row → List ℕ → List ℕ
with_row Free rest = 0 ∷ 0 ∷ 0 ∷ rest
with_row Source rest = 1 ∷ 0 ∷ 0 ∷ rest
with_row (And a b) rest = 2 ∷ a.0 ∷ b.0 ∷ rest
with_row (Alias a) rest = 3 ∷ a.0 ∷ 0 ∷ rest

-- the numbers of rows, one row after the other
abbrev pub numbers_of : List Row → List ℕ
numbers_of [] = []
numbers_of (row ∷ rows) = with_row row (numbers_of rows)

-- the row of a kind with these words of literals
abbrev pub row_of : ℕ → ℕ → ℕ → Row
row_of zero a b = Free
row_of (suc zero) a b = Source
row_of (suc (suc zero)) a b = And (record { 0 = a }) (record { 0 = b })
row_of (suc (suc (suc kind))) a b = Alias (record { 0 = a })

-- the rows that have these numbers
abbrev pub rows_of : List ℕ → List Row
rows_of [] = []
rows_of (kind ∷ []) = []
rows_of (kind ∷ a ∷ []) = []
rows_of (kind ∷ a ∷ b ∷ rest) = row_of kind a b ∷ rows_of rest

-- the numbers that name a listing of at most k leaves of rows
abbrev pub listing_of : ℕ → List Row → List ℕ
listing_of k rows = k ∷ numbers_of rows

-- nodes with their listed cuts, for the listing of this name
abbrev pub AreFoundFor : List ℕ → List (ℕ × List (List ℕ)) → Type 0
AreFoundFor name found = All (IsFound (slice_index_or name 0 0) (rows_of (drop 1 name))) found
