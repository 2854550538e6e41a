-- The walk that puts the tables in order, by numbers of tables and of names.
use Rattle.std.specs.Prelude.{◌≡◌, ℕ, ◌<◌, ◌≤◌, ◌++◌, nat_eq, not, ◌&&◌, Bool, true, false, List, [], ◌∷◌, map, take, length, slice_index_or, MatchOption, Option, Some, None, if◌then◌else◌}
use Rattle.std.specs.List.{list_all}
use Rattle.syn_netlist.specs.declared.order_walk.Stage.{Stage}
use Rattle.syn_netlist.specs.declared.order_walk.Stage.TheVariants.{Waiting, Open, Done}
use Rattle.syn_netlist.specs.declared.order_walk.Walked.{Walked}
use Rattle.syn_netlist.specs.declared.order_walk.Walked.TheVariants.{Order, Circle}
use Rattle.syn_netlist.specs.declared.tables.Table.{Table}
use Rattle.syn_lists.specs.Numbers.{has_number, distinct_numbers}
use Rattle.syn_netlist.specs.Numbers.{word_at, all_below}

-- the numbers of what a table reads
abbrev pub table_inputs : Table → List ℕ
table_inputs table = table.inputs

-- the number of what a table defines
abbrev pub table_output : Table → ℕ
table_output table = table.output

-- the numbers of what the table with this number reads
abbrev pub inputs_at : List Table → ℕ → List ℕ
inputs_at tables t = slice_index_or (map table_inputs tables) t []

-- the number of what the table with this number defines
abbrev pub output_at : List Table → ℕ → ℕ
output_at tables t = slice_index_or (map table_output tables) t 0

-- the table that makes a name, where one does
abbrev pub driver_at : List (Option ℕ) → ℕ → Option ℕ
driver_at drivers name = slice_index_or drivers name None

-- Each name below the length has the table of which it is the output, or none where it is no output.
pub record AreDrivers (tables : List Table) (drivers : List (Option ℕ)) : Type 0 where
  pub at : (name : ℕ) → name < length drivers → MatchOption (driver_at drivers name) (has_number (map table_output tables) name ≡ false) (λ t. (t < length tables) × (output_at tables t ≡ name))

-- the stage of a table
abbrev pub stage_at : List Stage → ℕ → Stage
stage_at stages t = slice_index_or stages t Waiting

-- it is on the path
abbrev pub is_open : Stage → Bool
is_open Waiting = false
is_open Open = true
is_open Done = false

-- it and all that it reads are done
abbrev pub is_done : Stage → Bool
is_done Waiting = false
is_done Open = false
is_done Done = true

-- how many steps a table has before it
abbrev pub weight : Stage → ℕ
weight Waiting = 2
weight Open = 1
weight Done = 0

-- the maker is none, or a table that is done
abbrev pub driver_done : List Stage → Option ℕ → Bool
driver_done stages None = true
driver_done stages (Some t) = is_done (stage_at stages t)

-- a name is finished: no table makes it, or one that is done
abbrev pub is_finished : List (Option ℕ) → List Stage → ℕ → Bool
is_finished drivers stages name = driver_done stages (driver_at drivers name)

-- the maker is none, or a table of the list
abbrev pub driver_among : List ℕ → Option ℕ → Bool
driver_among before None = true
driver_among before (Some t) = has_number before t

-- each table of the order reads names that no table makes, or one before it
abbrev pub reads_made : List Table → List (Option ℕ) → List ℕ → List ℕ → Bool
reads_made tables drivers before [] = true
reads_made tables drivers before (t ∷ order) = list_all (λ name. driver_among before (driver_at drivers name)) (inputs_at tables t) && reads_made tables drivers (before ++ t ∷ []) order

-- how many inputs of a table, from the first, are looked through
abbrev pub seen_at : List ℕ → ℕ → ℕ
seen_at seen t = slice_index_or seen t 0

-- the input of t at the place where it is looked through is made by u
pub record Leads (tables : List Table) (drivers : List (Option ℕ)) (seen : List ℕ) (t u : ℕ) : Type 0 where
  pub inside : seen_at seen t < length (inputs_at tables t)
  pub made : driver_at drivers (slice_index_or (inputs_at tables t) (seen_at seen t) 0) ≡ Some u

-- each table of the path leads to the next
abbrev pub Linked : List Table → List (Option ℕ) → List ℕ → List ℕ → Type 0
Linked tables drivers seen [] = Unit {0}
Linked tables drivers seen (t ∷ []) = Unit {0}
Linked tables drivers seen (t ∷ u ∷ path) = Leads tables drivers seen t u × Linked tables drivers seen (u ∷ path)

-- all tables before the first of the path are done
abbrev pub Begins : List Stage → List ℕ → Type 0
Begins stages [] = Unit {0}
Begins stages (t ∷ path) = (k : ℕ) → k < t → is_done (stage_at stages k) ≡ true

-- The state of the walk: the open tables are those of the path, each of which leads to the next; the tables that are done stand in the order, each below those that it reads.
pub record IsOrderWalk (tables : List Table) (drivers : List (Option ℕ)) (stages : List Stage) (seen path order : List ℕ) : Type 0 where
  pub stages_fit : length stages ≡ length tables
  pub seen_fit : length seen ≡ length tables
  pub open_ones : (t : ℕ) → t < length stages → is_open (stage_at stages t) ≡ has_number path t
  pub done_ones : (t : ℕ) → t < length stages → is_done (stage_at stages t) ≡ has_number order t
  pub path_below : all_below (length tables) path ≡ true
  pub path_once : distinct_numbers path ≡ true
  pub order_below : all_below (length tables) order ≡ true
  pub order_once : distinct_numbers order ≡ true
  pub looked : (t : ℕ) → t < length tables → list_all (is_finished drivers stages) (take (seen_at seen t) (inputs_at tables t)) ≡ true
  pub linked : Linked tables drivers seen path
  pub begins : Begins stages path
  pub made : reads_made tables drivers [] order ≡ true

-- The name at this place is the first, from the front, that isn't finished; its maker is `next`.
pub record IsNext (drivers : List (Option ℕ)) (stages : List Stage) (inputs : List ℕ) (at next : ℕ) : Type 0 where
  pub inside : at < length inputs
  pub before : list_all (is_finished drivers stages) (take at inputs) ≡ true
  pub driver : driver_at drivers (slice_index_or inputs at 0) ≡ Some next
  pub waits : is_done (stage_at stages next) ≡ false

-- no stage goes back
abbrev pub GoOn : List Stage → List Stage → Type 0
GoOn old new = (t : ℕ) → weight (stage_at new t) ≤ weight (stage_at old t)

-- The walk has met a table of its path again: the last of the path leads to it.
pub record Meets (tables : List Table) (drivers : List (Option ℕ)) (stages : List Stage) (seen path order : List ℕ) (back : ℕ) : Type 0 where
  pub walk : IsOrderWalk tables drivers stages seen path order
  pub front : List ℕ
  pub last : ℕ
  pub path_is : path ≡ front ++ last ∷ []
  pub leads : Leads tables drivers seen last back
  pub again : has_number path back ≡ true

-- The order has each table once, below those that it reads.
pub record IsOrder (tables : List Table) (drivers : List (Option ℕ)) (order : List ℕ) : Type 0 where
  pub below : all_below (length tables) order ≡ true
  pub once : distinct_numbers order ≡ true
  pub all : (t : ℕ) → t < length tables → has_number order t ≡ true
  pub made : reads_made tables drivers [] order ≡ true

-- What the walk ends with: an order of the tables, or a table of the path that is met again.
abbrev pub Walks : List Table → ℕ → Walked → Type 0
Walks tables count (Order order) = (drivers : List (Option ℕ)) × (length drivers ≡ count) × AreDrivers tables drivers × IsOrder tables drivers order.items
Walks tables count (Circle path back) =
    (drivers : List (Option ℕ)) × (length drivers ≡ count) × AreDrivers tables drivers × ((stages : List Stage) × (seen : List ℕ) × (order : List ℕ) × Meets tables drivers stages seen path.items order back)

-- the rest of a list from the first place of a number
abbrev pub from_number : ℕ → List ℕ → List ℕ
from_number n [] = []
from_number n (x ∷ xs) = if nat_eq x n then x ∷ xs else from_number n xs

-- the place isn't marked
abbrev pub is_unmarked : List Bool → ℕ → Bool
is_unmarked marks n = not (slice_index_or marks n false)

-- the words of the outputs of tables
abbrev pub output_words : List (List ℕ) → List Table → List ℕ → List (List ℕ)
output_words names tables numbers = map (λ t. word_at names (output_at tables t)) numbers
