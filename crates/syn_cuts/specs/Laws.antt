-- Laws of listed cuts.
use Rattle.std.specs.Prelude.{◌≡◌, ℕ, ◌+◌, ◌<◌, ◌≤◌, ◌&&◌, Bool, true, All, List, [], ◌∷◌, length, bit_or, bytes_eq, count_ones, slice_index_or}
use Rattle.std.specs.List.{list_any, list_all}
use Rattle.syn_rows.specs.declared.Row.{Row}
use Rattle.syn_rows.specs.Rows.{InOrder}
use Rattle.syn_cuts.specs.Cuts.{comes_before, arranged, listed_cuts, union}
use Rattle.syn_hashed.specs.Hashed.{IsHashed}
use Rattle.syn_cones.specs.Cones.{IsCut}
use Rattle.syn_cones.specs.Leaves.{are_below, rise_above}
use Rattle.syn_cuts.specs.Lists.{list_at}
use Rattle.syn_cuts.specs.Signatures.{signature}

-- Each listed cut of a node is a cut of it.
abbrev pub ListedAreCuts : Type 0
ListedAreCuts = (k : ℕ) (rows : List Row) → InOrder rows → (n : ℕ) → n < length rows → All (λ c. IsCut rows c n) (list_at (listed_cuts k rows) n)

-- each cut of the list comes before those behind it
abbrev pub are_in_order : List (List ℕ) → Bool
are_in_order [] = true
are_in_order (c ∷ cs) = list_all (comes_before c) cs && are_in_order cs

-- the cut is in the list
abbrev pub has_cut : List (List ℕ) → List ℕ → Bool
has_cut cuts c = list_any (λ d. bytes_eq d c) cuts

-- Arranged cuts are in order, so that none stands twice, and are the cuts that were arranged.
abbrev pub ArrangedInOrder : Type 0
ArrangedInOrder = (cuts : List (List ℕ)) → (are_in_order (arranged [] cuts) ≡ true) × ((c : List ℕ) → has_cut (arranged [] cuts) c ≡ has_cut cuts c)

-- A cut as it is listed: its leaves rise, none of them 0; they are below the node, and are 2 to k.
pub record IsListedCut (k node : ℕ) (c : List ℕ) : Type 0 where
  pub rising : rise_above 0 c ≡ true
  pub below : are_below node c ≡ true
  pub two : 2 ≤ length c
  pub few : length c ≤ k

-- Each listed cut of an AND of hashed rows is so, but the last, which is the node alone.
abbrev pub ListedCutsRise : Type 0
ListedCutsRise = (k count : ℕ) (rows : List Row) → IsHashed count rows → (n : ℕ) → count < n → n < length rows
    → (i : ℕ) → i + 1 < length (list_at (listed_cuts k rows) n) → IsListedCut k n (slice_index_or (list_at (listed_cuts k rows) n) i [])

-- Where the signatures of two cuts have together more than k bits, their union has more than k leaves.
abbrev pub SignaturesBoundUnions : Type 0
SignaturesBoundUnions = (k : ℕ) (c d : List ℕ) → k < count_ones (bit_or (signature c) (signature d)) → k < length (union c d)
