-- What is true of a table between any two steps: its words and its seats' views are a core state that is sound.
use Rattle.std.specs.Prelude.{◌≡◌, ◌≢◌, ◌⊎◌, ℕ, ◌<◌, ◌≤◌, true, List, [], ◌∷◌, drop, length, map, Some}
use mathlib.Core.Option.{some}
use lib.ListN.{get_elem?}
use Rattle.atomic_table.specs.Table.{State}
use Rattle.syn_rows.specs.declared.Row.{Row}
use Rattle.syn_rows.specs.declared.Row.TheVariants.{Free}
use Rattle.syn_rows.specs.declared.Lit.{Lit}
use Rattle.syn_rows.specs.References.{times}
use Rattle.syn_core_laws.specs.declared.View.{View}
use Rattle.syn_core_laws.specs.Cores.{Core}
use Rattle.syn_rows.specs.Nodes.{has_node}
use Rattle.syn_core_laws.specs.Events.{MayPin}
use Rattle.syn_core_laws.specs.Openings.{empty_view}
use Rattle.syn_core_laws.specs.Bounds.{IsSmall}
use Rattle.syn_core_laws.specs.Sound.{IsSound}
use Rattle.syn_core_laws.specs.Shown.{IsShown}
use Rattle.syn_core_laws.specs.Views.{known_row}
use Rattle.syn_table.specs.declared.Known.{Known}
use Rattle.syn_table.specs.declared.Opening.{Opening}
use Rattle.syn_table.specs.Openings.{opened_rows, opened_literals}
use Rattle.syn_table.specs.Numbers.{all_numbers, numbers_below}
use Rattle.syn_table.specs.Laying.{IsLaid}

-- the core's part of what the seats know
abbrev pub views_of : List Known → List View
views_of seats = map (λ (k : Known). k.core) seats

-- the first of the seat's numbers is its own
abbrev pub HasOwnNumber : Known → Type 0
HasOwnNumber k = k.numbers ≡ k.core.number ∷ drop 1 k.numbers

-- the seat has no number and knows nothing
abbrev pub IsSpent : Known → Type 0
IsSpent k = (k.numbers ≡ []) × (k.core ≡ empty_view 64)

-- what ties a seat to the state: one with a number knows the opening, and any other is spent
pub record IsTied (c : Core) (k : Known) : Type 0 where
  pub own : k.core.number < 64 → HasOwnNumber k
  pub opening : k.core.number < 64 → k.opening ≡ c.opening
  pub observed : k.core.number < 64 → k.observed ≡ c.observed
  pub spent : 64 ≤ k.core.number → IsSpent k

-- the words and the seats are this core, which is sound
pub record IsTable (opening : Opening) (words : List ℕ) (seats : List Known) (c : Core) : Type 0 where
  pub laid : IsLaid words c
  pub views : c.seats ≡ views_of seats
  pub opened : c.opening ≡ opened_rows opening
  pub observed : c.observed ≡ opened_literals opening
  pub nodes : length c.rows ≡ length c.opening
  pub small : IsSmall c
  pub sound : IsSound c
  pub tied : (id : ℕ) (k : Known) → get_elem? seats id ≡ some k → IsTied c k
  -- each number below 64 stands once among those of all seats, and no other does
  pub once : (n : ℕ) → n < 64 → times n (all_numbers seats) ≡ 1
  pub below : (n : ℕ) → 64 ≤ n → times n (all_numbers seats) ≡ 0

-- the whole rule: the words and the seats are some core that is sound
abbrev pub IsCore : Opening → State ℕ Known → Type 0
IsCore opening s = (c : Core) × IsTable opening s.words s.views c

-- what the first seat knows: all numbers are its own, and the opening
abbrev pub first_seat : List Row → List Lit → Known
first_seat rows observed = record { core = empty_view 0; numbers = numbers_below 64; opening = rows; observed = observed }

-- the same of what a table is opened with
abbrev pub first_known : Opening → Known
first_known opening = first_seat (opened_rows opening) (opened_literals opening)

-- what a seat that isn't spent shows by itself: it has a number, what it holds or may pin is a node of the opening, and its view is one of a sound core's
pub record IsActive (k : Known) : Type 0 where
  pub number : k.core.number < 64
  pub own : HasOwnNumber k
  pub within : (n : ℕ) → (has_node k.core.held n ≡ true) ⊎ MayPin k.core n → n < length k.opening
  pub shown : IsShown (length k.opening) k.core
  -- node 0 isn't free
  pub constant : known_row k.core 0 ≢ Some Free
