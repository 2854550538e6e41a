-- Two rows have the same value, whatever values the named nodes are given.
use Rattle.std.specs.Prelude.{◌≡◌, ℕ, zero, suc, ◌%◌, not, ◌==◌, ◌&&◌, Bool, false, if◌then◌else◌, List, Option, Some, None}
use Rattle.syn_rows.specs.declared.Row.{Row}
use Rattle.syn_rows.specs.declared.Row.TheVariants.{Free, Source, And, Alias}
use Rattle.syn_rows.specs.declared.Lit.{Lit}
use Rattle.syn_rows.specs.Rows.{node_of}
use Rattle.syn_core_laws.specs.declared.View.{View}
use Rattle.syn_rows.specs.Nodes.{has_node}
use Rattle.syn_core_laws.specs.Views.{known_row}

-- the value of a literal by that of its node; no value where the node has none
abbrev pub turned_by : Lit → Option Bool → Option Bool
turned_by l None = None
turned_by l (Some b) = Some (if l.0 % 2 == 0 then b else not b)

-- both values, joined by AND
abbrev pub both : Option Bool → Option Bool → Option Bool
both None y = None
both (Some a) None = None
both (Some a) (Some b) = Some (a && b)

-- the value of a row by the values of the nodes that it refers to
abbrev pub value_of_row : (ℕ → Option Bool) → Row → Option Bool
value_of_row at Free = None
value_of_row at Source = None
value_of_row at (And a b) = both (turned_by a (at (node_of a))) (turned_by b (at (node_of b)))
value_of_row at (Alias a) = turned_by a (at (node_of a))

-- the same of a row that may be unknown
abbrev pub known_value : (ℕ → Option Bool) → Option Row → Option Bool
known_value at None = None
known_value at (Some r) = value_of_row at r

-- the value of a node by at most `steps` known rows: a node of `over` has the chosen one, and node 0 is false
abbrev pub value_by : (ℕ → Option Row) → List ℕ → (ℕ → Bool) → ℕ → ℕ → Option Bool
value_by known over choice zero n = if has_node over n then Some (choice n) else if n == 0 then Some false else None
value_by known over choice (suc steps) n = if has_node over n then Some (choice n) else if n == 0 then Some false else known_value (value_by known over choice steps) (known n)

-- the row has this value, by some number of steps
abbrev pub HasValue : (ℕ → Option Row) → List ℕ → (ℕ → Bool) → Row → Bool → Type 0
HasValue known over choice row b = (steps : ℕ) × (value_of_row (value_by known over choice steps) row ≡ Some b)

-- for this choice of values both rows have a value, and the two are equal
abbrev pub SameFor : (ℕ → Option Row) → List ℕ → (ℕ → Bool) → Row → Row → Type 0
SameFor known over choice old new = (b : Bool) × HasValue known over choice old b × HasValue known over choice new b

-- whatever values the nodes of `over` are given, both rows have a value, and the two are equal
abbrev pub SameValue : View → List ℕ → Row → Row → Type 0
SameValue v over old new = (choice : ℕ → Bool) → SameFor (known_row v) over choice old new
