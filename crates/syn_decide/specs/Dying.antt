-- Which rows die with the root's old row. A counted row is an inner row with the references to its node that are not the seat's own pins.
use Rattle.std.specs.Prelude.{◌≡◌, ℕ, zero, suc, ◌+◌, ◌-◌, ◌<◌, ◌≤◌, ◌&&◌, not, nat_le, if◌then◌else◌, Bool, true, false, All, List, [], ◌∷◌, ◌++◌, map, length, slice_index_or, Option, Some, None}
use Rattle.syn_rows.specs.References.{refs, and_count}
use Rattle.syn_rows.specs.Nodes.{has_node}
use Rattle.syn_decide.specs.declared.decisions.Counted.{Counted}
use Rattle.syn_decide.specs.declared.decisions.NodeRow.{NodeRow}

-- the first of the inner rows, with these counts
abbrev pub counted_of : List NodeRow → List ℕ → List Counted
counted_of [] counts = []
counted_of (r ∷ inner) [] = []
counted_of (r ∷ inner) (others ∷ counts) = record { node = r.node; row = r.row; others = others } ∷ counted_of inner counts

-- the nodes of counted rows
abbrev pub counted_nodes : List Counted → List ℕ
counted_nodes rows = map (λ r. r.node) rows

-- the references of counted rows to the node m
abbrev pub refs_by_counted : List Counted → ℕ → ℕ
refs_by_counted [] m = 0
refs_by_counted (r ∷ rows) m = refs m r.row + refs_by_counted rows m

-- A row dies where it is no hit, and all references to it that are not the seat's own pins are from rows that die.
abbrev pub dies : List ℕ → List Counted → Counted → Bool
dies hits dying r = (not (has_node (counted_nodes dying) r.node) && not (has_node hits r.node)) && nat_le r.others (refs_by_counted dying r.node)

-- What is left of the references to each row, without those from rows that die.
pub record AreLeft (rows dying : List Counted) (left : List ℕ) : Type 0 where
  pub len : length left ≡ length rows
  pub each : (i : ℕ) (d : Counted) → i < length rows → slice_index_or left i 0 ≡ (slice_index_or rows i d).others - refs_by_counted dying (slice_index_or rows i d).node

-- the first of the rows that dies, beside those that are known to
abbrev pub first_dying : List ℕ → List Counted → List Counted → Option Counted
first_dying hits dying [] = None
first_dying hits dying (r ∷ rows) = if dies hits dying r then Some r else first_dying hits dying rows

-- one more row dies, and then what follows from that; or none does
abbrev pub and_more : List Counted → (List Counted → List Counted) → Option Counted → List Counted
and_more dying next None = dying
and_more dying next (Some r) = next (dying ++ r ∷ [])

-- the rows that die by at most so many steps more, one row a step, while one dies
abbrev pub dying_after : ℕ → List ℕ → List Counted → List Counted → List Counted
dying_after zero hits rows dying = dying
dying_after (suc k) hits rows dying = and_more dying (dying_after k hits rows) (first_dying hits dying rows)

-- The root's old row, which stands first, and the rows that die with it.
abbrev pub dying_of : List ℕ → List Counted → List Counted
dying_of hits [] = []
dying_of hits (root ∷ rows) = dying_after (length rows) hits rows (root ∷ [])

-- how many of the rows are ANDs
abbrev pub ands_of : List Counted → ℕ
ands_of [] = 0
ands_of (r ∷ rows) = and_count r.row + ands_of rows

-- the references to m from those of the rows whose nodes are in the set
abbrev pub refs_by_set : List Counted → (ℕ → Bool) → ℕ → ℕ
refs_by_set [] set m = 0
refs_by_set (r ∷ rows) set m = (if set r.node then refs m r.row else 0) + refs_by_set rows set m

-- The set has each row that is no hit and to which, but for the seat's own pins, only rows of the set refer.
abbrev pub IsClosedByCounts : List ℕ → List Counted → (ℕ → Bool) → Type 0
IsClosedByCounts hits rows set = All (λ r. has_node hits r.node ≡ false → r.others ≤ refs_by_set rows set r.node → set r.node ≡ true) rows

-- The set is the least such that has the root.
pub record IsLeastDying (hits : List ℕ) (rows : List Counted) (root : ℕ) (dying : ℕ → Bool) : Type 0 where
  pub root_dies : dying root ≡ true
  pub closed : IsClosedByCounts hits rows dying
  pub least : (set : ℕ → Bool) → set root ≡ true → IsClosedByCounts hits rows set → (n : ℕ) → dying n ≡ true → set n ≡ true

-- no node stands twice in the list
abbrev pub are_distinct : List ℕ → Bool
are_distinct [] = true
are_distinct (n ∷ ns) = not (has_node ns n) && are_distinct ns
