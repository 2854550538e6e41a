-- Where words stand in a list.
use Rattle.std.specs.Prelude.{◌≡◌, ℕ, ◌<◌, List, length, map, slice_index_or, Option, None}
use Rattle.syn_netlist.specs.Choosing.{IsPlace}
use Rattle.syn_netlist.specs.Numbers.{word_at}
use Rattle.syn_network.specs.GraphShape.{place}

-- Each name has its place among the words, if it is one of them.
pub record HavePlaces (names words : List (List ℕ)) (places : List (Option ℕ)) : Type 0 where
  pub long : length places ≡ length names
  pub at : (i : ℕ) → i < length names → IsPlace words (word_at names i) (slice_index_or places i None)

-- the places in a list of some words
abbrev pub places_in : List (List ℕ) → List (List ℕ) → List ℕ
places_in all words = map (λ word. place word all) words
