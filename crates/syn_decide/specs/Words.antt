-- The words of inner rows: one for each, or none where the row has none yet, made one after the other.
-- Bit m of a word is the value where the first seven leaves have the values of minterm m, and the eighth has the cone's.
use Rattle.std.specs.Prelude.{◌≡◌, ℕ, suc, zero, ◌<◌, ◌≤◌, ◌==◌, if◌then◌else◌, Bool, false, List, [], ◌∷◌, length, slice_index_or, take, Option, Some, None}
use Rattle.syn_rows.specs.declared.Row.{Row}
use Rattle.syn_rows.specs.Nodes.{has_node}
use Rattle.syn_truth.specs.Words.{value_in}
use Rattle.syn_core_laws.specs.SameValue.{known_value, value_by, value_of_row}
use Rattle.syn_decide.specs.declared.decisions.NodeRow.{NodeRow}
use Rattle.syn_decide.specs.declared.decisions.Cone.{Cone}
use Rattle.syn_decide.specs.Walk.{row_among}
use Rattle.syn_decide.specs.Functions.{leaf_value}

-- P holds at each list of values of eight leaves of which the eighth is this one
abbrev pub AtChoices : Bool → (List Bool → Type 0) → Type 0
AtChoices last P = (xs : List Bool) → length xs ≡ 8 → slice_index_or xs 7 false ≡ last → P xs

-- the value in a word where the leaves have these values, if there is a word
abbrev pub word_value : List Bool → Option ℕ → Option Bool
word_value xs None = None
word_value xs (Some w) = Some (value_in w (take 7 xs))

-- the word of the first of the inner rows that is the node's, where each row has a word or none
abbrev pub word_for : List NodeRow → List (Option ℕ) → ℕ → Option ℕ
word_for [] words n = None
word_for (r ∷ inner) [] n = None
word_for (r ∷ inner) (w ∷ words) n = if r.node == n then w else word_for inner words n

-- the value of a node by these words, where the leaves have these values
abbrev pub node_value : Cone → List (Option ℕ) → List Bool → ℕ → Option Bool
node_value c words xs n = if has_node c.leaves.now n then Some (leaf_value c.leaves.now xs n) else if n == 0 then Some false else word_value xs (word_for c.inner.now words n)

-- the value of a node by at most so many rows, where the leaves have these values
abbrev pub value_after : List NodeRow → List ℕ → List Bool → ℕ → ℕ → Option Bool
value_after inner leaves xs steps n = value_by (row_among inner) leaves (leaf_value leaves xs) steps n

-- the value of an inner row by at most so many rows, its own among them
abbrev pub inner_value : Cone → List Bool → ℕ → ℕ → Option Bool
inner_value c xs zero n = None
inner_value c xs (suc steps) n = known_value (value_after c.inner.now c.leaves.now xs steps) (row_among c.inner.now n)

-- the word of a row by those of its nodes
pub record IsRowWord (c : Cone) (words : List (Option ℕ)) (row : Row) (word : Option ℕ) : Type 0 where
  pub values : AtChoices c.last (λ xs. word_value xs word ≡ value_of_row (node_value c words xs) row)

-- the word of a node by so many rows
pub record IsNodeWord (c : Cone) (steps n : ℕ) (word : Option ℕ) : Type 0 where
  pub values : AtChoices c.last (λ xs. word_value xs word ≡ value_after c.inner.now c.leaves.now xs steps n)

-- Words of which so many were made, one after the other: each value in one of them is that of its row by as many rows.
pub record IsMade (c : Cone) (steps : ℕ) (words : List (Option ℕ)) : Type 0 where
  pub values : (n : ℕ) → AtChoices c.last (λ xs. (b : Bool) → word_value xs (word_for c.inner.now words n) ≡ Some b → inner_value c xs steps n ≡ Some b)

-- one where a word isn't made yet
abbrev pub unmade : Option ℕ → ℕ
unmade None = 1
unmade (Some w) = 0

-- The row at a place has a word, or its nodes have too few.
abbrev pub IsStillAt : Cone → List (Option ℕ) → ℕ → Type 0
IsStillAt c words place = slice_index_or words place None ≡ None → (d : NodeRow) → IsRowWord c words (slice_index_or c.inner.now place d).row None

-- That is so of each row from a place on.
abbrev pub IsStill : Cone → List (Option ℕ) → ℕ → Type 0
IsStill c words from = (place : ℕ) → from ≤ place → place < length c.inner.now → IsStillAt c words place
