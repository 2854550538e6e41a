-- The search for the values of nodes by known rows: what has been told so far.
use Rattle.std.specs.Prelude.{◌≡◌, ℕ, ◌+◌, ◌||◌, Bool, true, false, List, [], ◌∷◌, Option, Some, None, is_some}
use Rattle.syn_rows.specs.declared.Row.{Row}
use Rattle.syn_rows.specs.Nodes.{has_node}
use Rattle.syn_core_laws.specs.Lists.{look}
use Rattle.syn_core_laws.specs.SameValue.{value_of_row, known_value, value_by, SameFor}

-- each value that is told is one by some number of known rows; the nodes of `over` and node 0 are told
pub record IsTold (known : ℕ → Option Row) (over : List ℕ) (choice : ℕ → Bool) (told : List (ℕ × Bool)) : Type 0 where
  pub named : (n : ℕ) → has_node over n ≡ true → look n told ≡ Some (choice n)
  pub constant : has_node over 0 ≡ false → look 0 told ≡ Some false
  pub each : (n : ℕ) (b : Bool) → look n told ≡ Some b → (steps : ℕ) × (value_by known over choice steps n ≡ Some b)

-- the value, where nothing is told yet
abbrev pub if_untold : Option Bool → Option Bool → Option Bool
if_untold None value = value
if_untold (Some b) value = None

-- the value that a known row gives a node that isn't told yet
abbrev pub new_value : (ℕ → Option Row) → List (ℕ × Bool) → ℕ → Option Bool
new_value known told n = if_untold (look n told) (known_value (λ m. look m told) (known n))

-- no known row gives a value to a node that isn't told
abbrev pub IsFull : (ℕ → Option Row) → List (ℕ × Bool) → Type 0
IsFull known told = (n : ℕ) → new_value known told n ≡ None

-- the node with its value, or else the next one
abbrev pub or_next : ℕ → Option Bool → Option (ℕ × Bool) → Option (ℕ × Bool)
or_next n None rest = rest
or_next n (Some b) rest = Some (n, b)

-- the first of the nodes to which the function gives a value, and the value
abbrev pub first_new : (ℕ → Option Bool) → List (ℕ × Row) → Option (ℕ × Bool)
first_new value [] = None
first_new value (x ∷ xs) = or_next x.0 (value x.0) (first_new value xs)

-- 1 where nothing is told
abbrev pub if_missing : Option Bool → ℕ
if_missing None = 1
if_missing (Some b) = 0

-- how many entries are of nodes that aren't told
abbrev pub untold : List (ℕ × Bool) → List (ℕ × Row) → ℕ
untold told [] = 0
untold told (x ∷ xs) = if_missing (look x.0 told) + untold told xs

-- both rows have a value by what is told, and the two are equal
abbrev pub SameTold : List (ℕ × Bool) → Row → Row → Type 0
SameTold told old new = (b : Bool) × (value_of_row (λ n. look n told) old ≡ Some b) × (value_of_row (λ n. look n told) new ≡ Some b)

-- the nodes of `over` are those that stand in `rest` and those with a chosen value
abbrev pub Covers : List ℕ → List ℕ → List (ℕ × Bool) → Type 0
Covers over rest chosen = (n : ℕ) → has_node over n ≡ (has_node rest n || is_some (look n chosen))

-- the choice gives the chosen values
abbrev pub Agrees : (ℕ → Bool) → List (ℕ × Bool) → Type 0
Agrees choice chosen = (n : ℕ) (b : Bool) → look n chosen ≡ Some b → choice n ≡ b

-- the rows have the same value for each choice that gives the chosen values
abbrev pub SameForAll : (ℕ → Option Row) → List ℕ → List (ℕ × Bool) → Row → Row → Type 0
SameForAll known over chosen old new = (choice : ℕ → Bool) → Agrees choice chosen → SameFor known over choice old new
