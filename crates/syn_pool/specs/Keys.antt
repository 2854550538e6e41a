-- Keys of nodes by their numbers.
use Rattle.std.specs.Prelude.{◌≡◌, ℕ, ◌*◌, ◌^◌, ◌<◌, List, length, slice_index}
use Rattle.syn_rows.specs.declared.Row.{Row}
use Rattle.syn_rows.specs.declared.Row.TheVariants.{Free, Source, And, Alias}
use Rattle.syn_rows.specs.Rows.{row_at}

-- the key of a node with this row: 0 where it is no AND
abbrev pub key_of_row : ℕ → Row → ℕ
key_of_row node (And a b) = node * 2 ^ 32
key_of_row node Free = 0
key_of_row node Source = 0
key_of_row node (Alias a) = 0

-- each row has its node's key
pub record HasKeys (rows : List Row) (keys : List ℕ) : Type 0 where
  pub count : length keys ≡ length rows
  pub each : (n : ℕ) → n < length rows → slice_index keys n ≡ key_of_row n (row_at rows n)
