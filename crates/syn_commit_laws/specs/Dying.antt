-- Which rows die with a root: a least set, by counts; and what a loaded count tells.
use Rattle.std.specs.Prelude.{◌≡◌, ◌≢◌, ◌⊎◌, ℕ, ◌+◌, ◌<◌, ◌≤◌, Bool, true, false, if◌then◌else◌, List, [], ◌∷◌, Option, Some, None}
use Rattle.syn_rows.specs.declared.Row.{Row}
use Rattle.syn_rows.specs.References.{and_count, sum_below}
use Rattle.syn_core_laws.specs.declared.View.{View}
use Rattle.syn_rows.specs.Nodes.{has_node}
use Rattle.syn_core_laws.specs.Views.{known_row, refs_known, own_refs, own_pins, is_derived_known}

-- the references to the node m from known rows of the set
abbrev pub refs_from : ℕ → View → (ℕ → Bool) → ℕ → ℕ
refs_from nodes v set m = sum_below nodes (λ n. if set n then refs_known m (known_row v n) else 0)

-- 1 for a row known as an AND
abbrev pub ands_known : Option Row → ℕ
ands_known None = 0
ands_known (Some r) = and_count r

-- the nodes of the set that the seat knows as ANDs
abbrev pub ands_in : ℕ → View → (ℕ → Bool) → ℕ
ands_in nodes v set = sum_below nodes (λ n. if set n then ands_known (known_row v n) else 0)

-- as many references to m as dead rows can explain: the seat's own pins, those of the root's row, and those of rows of the set
abbrev pub explained : ℕ → View → ℕ → (ℕ → Bool) → ℕ → ℕ
explained nodes v root set m = own_pins v m + (refs_known m (known_row v root) + refs_from nodes v set m)

-- a set that has each node that may die and whose count is explained
abbrev pub Dies : ℕ → View → (ℕ → ℕ) → ℕ → (ℕ → Bool) → (ℕ → Bool) → Type 0
Dies nodes v counts root may set = (m : ℕ) → may m ≡ true → counts m ≤ explained nodes v root set m → set m ≡ true

-- the dying rows: the least such set
pub record IsDying (nodes : ℕ) (v : View) (counts : ℕ → ℕ) (root : ℕ) (may dying : ℕ → Bool) : Type 0 where
  pub closed : Dies nodes v counts root may dying
  pub least : (set : ℕ → Bool) → Dies nodes v counts root may set → (m : ℕ) → dying m ≡ true → set m ≡ true

-- the references to m from known rows of a list of nodes, and the ANDs among these rows
abbrev pub refs_among : View → List ℕ → ℕ → ℕ
refs_among v [] m = 0
refs_among v (n ∷ ns) m = refs_known m (known_row v n) + refs_among v ns m

abbrev pub ands_among : View → List ℕ → ℕ
ands_among v [] = 0
ands_among v (n ∷ ns) = ands_known (known_row v n) + ands_among v ns

-- Some dying rows were found, as a list: each is in every set that obeys the rule, and sums over the list are those over the set.
pub record AreFound (nodes : ℕ) (v : View) (counts : ℕ → ℕ) (root : ℕ) (may : ℕ → Bool) (dead : List ℕ) : Type 0 where
  pub sound : (set : ℕ → Bool) → Dies nodes v counts root may set → (m : ℕ) → has_node dead m ≡ true → set m ≡ true
  pub refs : (m : ℕ) → refs_from nodes v (λ n. has_node dead n) m ≡ refs_among v dead m
  pub ands : ands_in nodes v (λ n. has_node dead n) ≡ ands_among v dead

-- as many references to m as the rows found can explain
abbrev pub explained_by : View → ℕ → List ℕ → ℕ → ℕ
explained_by v root dead m = own_pins v m + (refs_known m (known_row v root) + refs_among v dead m)

-- The count x was loaded of m: it is at least the seat's references and pins, and where it is no more than these, the node is sole.
pub record IsLoaded (nodes : ℕ) (v : View) (m x : ℕ) : Type 0 where
  pub lower : own_refs nodes v m + own_pins v m ≤ x
  pub sole : m ≢ 0 → x ≡ own_refs nodes v m + own_pins v m → has_node v.sole m ≡ true

-- only the root and nodes of the set are known to refer to m
abbrev pub OnlyThese : ℕ → View → ℕ → (ℕ → Bool) → ℕ → Type 0
OnlyThese nodes v root set m = (n : ℕ) → n < nodes → 1 ≤ refs_known m (known_row v n) → (n ≡ root) ⊎ (set n ≡ true)

-- Rows that are to go with the root: nodes that are there, known as gates, the seat's alone, and referred to, by the root and by one another alone.
pub record AreDoomed (nodes root : ℕ) (dying : ℕ → Bool) (v : View) : Type 0 where
  pub root_stays : dying root ≡ false
  pub there : (m : ℕ) → dying m ≡ true → m < nodes
  pub gates : (m : ℕ) → dying m ≡ true → is_derived_known (known_row v m) ≡ true
  pub referred : (m : ℕ) → dying m ≡ true → 1 ≤ own_refs nodes v m
  pub soles : (m : ℕ) → dying m ≡ true → has_node v.sole m ≡ true
  pub only : (m : ℕ) → dying m ≡ true → OnlyThese nodes v root dying m

-- What a walk from the root leaves: the root is a node; what may die is another node that isn't 0, known as a gate, to which a known row refers.
pub record IsWalk (nodes root : ℕ) (may : ℕ → Bool) (v : View) : Type 0 where
  pub root_there : root < nodes
  pub root_stays : may root ≡ false
  pub constant : may 0 ≡ false
  pub there : (m : ℕ) → may m ≡ true → m < nodes
  pub gates : (m : ℕ) → may m ≡ true → is_derived_known (known_row v m) ≡ true
  pub referred : (m : ℕ) → may m ≡ true → (n : ℕ) × (n < nodes) × (1 ≤ refs_known m (known_row v n))

-- the counts of what may die were loaded
abbrev pub AreLoaded : ℕ → (ℕ → Bool) → (ℕ → ℕ) → View → Type 0
AreLoaded nodes may counts v = (m : ℕ) → may m ≡ true → IsLoaded nodes v m (counts m)
