-- Names that are chosen among others, and where those are among them.
use Rattle.std.specs.Prelude.{◌≡◌, ℕ, ◌<◌, false, List, length, slice_index_or, Option, Some, None}
use Rattle.std.specs.List.{sum_by}
use Rattle.syn_netlist.specs.Numbers.{word_at}
use Rattle.syn_netlist.specs.Words.{has_word}

-- The place of a word among words, if it is one of them.
pub record IsPlace (words : List (List ℕ)) (word : List ℕ) (place : Option ℕ) : Type 0 where
  pub there : (p : ℕ) → place ≡ Some p → (p < length words) × (word_at words p ≡ word)
  pub none : place ≡ None → has_word words word ≡ false

-- one for a place that is there
abbrev pub filled : Option ℕ → ℕ
filled None = 0
filled (Some place) = 1

-- Each name has its place among the chosen ones, and as many names have one as are chosen.
pub record ArePlaces (names chosen : List (List ℕ)) (places : List (Option ℕ)) : Type 0 where
  pub count : length places ≡ length names
  pub at : (i : ℕ) → i < length names → IsPlace chosen (word_at names i) (slice_index_or places i None)
  pub many : length chosen ≡ sum_by filled places
