-- How the words of the core lie in the table: word 0 is the seats', then come four words for each node.
use Rattle.std.specs.Prelude.{◌≡◌, ℕ, ◌+◌, ◌-◌, ◌*◌, ◌/◌, ◌<◌, List, length, slice_index}
use Rattle.syn_rows.specs.declared.Row.{Row}
use Rattle.syn_rows.specs.Packing.{word_of}
use Rattle.syn_rows.specs.Rows.{row_at}
use Rattle.syn_core_laws.specs.Cores.{Core}

-- the words are those of the core's nodes
pub record IsLaid (words : List ℕ) (c : Core) : Type 0 where
  pub size : length words ≡ 1 + 4 * length c.rows
  pub claims : (n : ℕ) → n < length c.rows → slice_index words (1 + 4 * n) ≡ slice_index c.claims n
  pub rows : (n : ℕ) → n < length c.rows → slice_index words (2 + 4 * n) ≡ word_of (row_at c.rows n)
  pub counts : (n : ℕ) → n < length c.rows → slice_index words (3 + 4 * n) ≡ slice_index c.counts n
  pub keys : (n : ℕ) → n < length c.rows → slice_index words (4 + 4 * n) ≡ slice_index c.keys n

-- the words of so many nodes that nobody holds, by lists of rows, counts and keys; a node past a list's end has a free row, count 0, key 0
pub record AreWords (words : List ℕ) (nodes : ℕ) (row_list : List Row) (count_list key_list : List ℕ) : Type 0 where
  pub size : length words ≡ 1 + 4 * nodes
  pub claims : (n : ℕ) → n < nodes → slice_index words (1 + 4 * n) ≡ 0
  pub rows : (n : ℕ) → n < nodes → slice_index words (2 + 4 * n) ≡ word_of (row_at row_list n)
  pub counts : (n : ℕ) → n < nodes → slice_index words (3 + 4 * n) ≡ slice_index count_list n
  pub keys : (n : ℕ) → n < nodes → slice_index words (4 + 4 * n) ≡ slice_index key_list n

-- the node of a word other than word 0
abbrev pub node_at : ℕ → ℕ
node_at word = (word - 1) / 4
