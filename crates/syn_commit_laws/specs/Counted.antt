-- The rows that a decision counts as dying, in the view of the seat that loaded them.
use Rattle.std.specs.Prelude.{◌≡◌, ℕ, ◌+◌, ◌-◌, ◌<◌, ◌&&◌, not, Bool, true, List, [], ◌∷◌, Some}
use Rattle.std.specs.List.{AllByRecursion}
use Rattle.syn_rows.specs.References.{and_count}
use Rattle.syn_core_laws.specs.declared.View.{View}
use Rattle.syn_rows.specs.Nodes.{has_node}
use Rattle.syn_core_laws.specs.Views.{known_row, own_pins}
use Rattle.syn_decide.specs.declared.decisions.Counted.{Counted}
use Rattle.syn_decide.specs.Dying.{ands_of, are_distinct, counted_nodes, dying_of}
use Rattle.syn_commit_laws.specs.Dying.{IsDying, ands_in}

-- Counted rows as a seat knows them: of different nodes that are there, with the rows that it knows, and each count less the seat's own pins.
pub record AreCounted (nodes : ℕ) (v : View) (counts : ℕ → ℕ) (rows : List Counted) : Type 0 where
  pub distinct : are_distinct (counted_nodes rows) ≡ true
  pub there : AllByRecursion (λ r. r.node < nodes) rows
  pub known : AllByRecursion (λ r. known_row v r.node ≡ Some r.row) rows
  pub others : AllByRecursion (λ r. r.others ≡ counts r.node - own_pins v r.node) rows

-- what may die beside the root: the nodes of the other rows that are no hits
abbrev pub may_die : List ℕ → List Counted → ℕ → Bool
may_die hits rows m = has_node (counted_nodes rows) m && not (has_node hits m)

-- the nodes of dying rows behind the root's
abbrev pub dead_of : List Counted → List ℕ
dead_of [] = []
dead_of (root ∷ rows) = counted_nodes rows

-- The rows that a decision counts as dying are, beside the root's, the dying rows of the view, and their ANDs with the root's are those that it counts.
abbrev pub CountedRowsDie : Type 0
CountedRowsDie = (nodes : ℕ) (v : View) (counts : ℕ → ℕ) (hits : List ℕ) (root : Counted) (rows : List Counted) → AreCounted nodes v counts (root ∷ rows)
    → IsDying nodes v counts root.node (may_die hits rows) (λ n. has_node (dead_of (dying_of hits (root ∷ rows))) n)
    × (and_count root.row + ands_in nodes v (λ n. has_node (dead_of (dying_of hits (root ∷ rows))) n) ≡ ands_of (dying_of hits (root ∷ rows)))
