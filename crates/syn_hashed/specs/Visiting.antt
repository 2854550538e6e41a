-- Rows made again in the order of a walk: the literal that stands for each node that was visited.
use Rattle.std.specs.Prelude.{◌≡◌, ℕ, ◌+◌, ◌*◌, ◌%◌, ◌<◌, ◌≤◌, ◌-◌, ◌==◌, nat_le, if◌then◌else◌, Bool, false, All, List, length, slice_index_or, Option, Some, None, IsSome}
use Rattle.std.specs.List.{sum_by}
use Rattle.std.specs.Option.{is_some}
use Rattle.syn_rows.specs.declared.Lit.{Lit}
use Rattle.syn_rows.specs.declared.Row.{Row}
use Rattle.syn_rows.specs.declared.Row.TheVariants.{Free, Source, And, Alias}
use Rattle.syn_rows.specs.Rows.{node_of, row_at, AllRefs}
use Rattle.syn_rows.specs.Values.{Fits, is_open, rows_function}
use Rattle.syn_rows.specs.Reach.{Ands, ands_in}
use Rattle.syn_rows.specs.References.{and_count}
use Rattle.syn_hashed.specs.Hashed.{IsHashed, lit_at}
use Rattle.syn_rows.specs.Levels.{HasLevels}
use Rattle.syn_hashed.specs.Compacting.{HasSources, SameValues}
use Rattle.syn_hashed.specs.Growing.{Extends, value_by, level_by}

-- the literal that stands for a node, if it was visited
abbrev pub visited : List (Option Lit) → ℕ → Option Lit
visited literals n = slice_index_or literals n None

-- the same of a complemented literal is its complement
abbrev pub with_sign : Lit → Option Lit → Option Lit
with_sign lit None = None
with_sign lit (Some l) = Some (if lit.0 % 2 == 0 then l else (record { 0 = if l.0 % 2 == 0 then l.0 + 1 else l.0 - 1 }))

abbrev pub literal_of : List (Option Lit) → Lit → Option Lit
literal_of literals lit = with_sign lit (visited literals (node_of lit))

abbrev pub both : Option Lit → Option Lit → Option (Lit × Lit)
both None y = None
both (Some x) None = None
both (Some x) (Some y) = Some (x, y)

-- the literals that stand for the fan-ins of an AND, where both were visited
abbrev pub fan_ins_of : List (Option Lit) → Row → Option (Lit × Lit)
fan_ins_of literals Free = None
fan_ins_of literals Source = None
fan_ins_of literals (And a b) = both (literal_of literals a) (literal_of literals b)
fan_ins_of literals (Alias a) = None

-- before any other node is visited, node 0 and the sources stand for themselves
abbrev pub first_literal : ℕ → ℕ → Option Lit
first_literal count n = if nat_le n count then Some (record { 0 = 2 * n }) else None

-- 1 for a node that was not visited
abbrev pub unvisited : Option Lit → ℕ
unvisited None = 1
unvisited (Some l) = 0

-- For each valuation that fits the old rows, the literal has the node's value by the new rows, where both have the same given values.
abbrev pub HasValue : ℕ → List Row → ℕ → List Row → Lit → Type 0
HasValue count rows n new l = (given v : ℕ → Bool) → Fits rows v → HasSources count given v → value_by given new l ≡ v n

-- For all levels of the old rows, the literal lies no higher in the new rows than the node.
abbrev pub LiesNoHigher : List Row → ℕ → List Row → Lit → Type 0
LiesNoHigher rows n new l = (level : ℕ → ℕ) → HasLevels rows level → level_by new l ≤ level n

-- Nodes are visited: each has a literal of the new rows that has its value and lies no higher; node 0 and the sources have their own; there are no more new rows than these and the visited ANDs.
pub record IsVisit (count : ℕ) (rows : List Row) (literals : List (Option Lit)) (new : List Row) : Type 0 where
  pub all : length literals ≡ length rows
  pub there : (n : ℕ) (l : Lit) → visited literals n ≡ Some l → node_of l < length new
  pub values : (n : ℕ) (l : Lit) → visited literals n ≡ Some l → HasValue count rows n new l
  pub levels : (n : ℕ) (l : Lit) → visited literals n ≡ Some l → LiesNoHigher rows n new l
  pub front : (n : ℕ) → n < count + 1 → visited literals n ≡ Some (record { 0 = 2 * n })
  pub few : length new + sum_by unvisited literals ≤ length rows
  pub fewer : length new ≤ count + 1 + ands_in (λ n. is_some (visited literals n)) rows

-- the literal stands for the node in new rows, which have at most one row more than the old new ones, and none more but for an AND
pub record IsMade (count : ℕ) (rows : List Row) (n : ℕ) (old new : List Row) (l : Lit) : Type 0 where
  pub grown : Extends old new
  pub few : length new ≤ length old + and_count (row_at rows n)
  pub there : node_of l < length new
  pub value : HasValue count rows n new l
  pub level : LiesNoHigher rows n new l

-- the row is an AND or an alias, and all that it refers to was visited
abbrev pub IsReady : List (Option Lit) → Row → Type 0
IsReady literals row = (is_open row ≡ false) × AllRefs (λ m. IsSome (visited literals m)) row

-- what was visited has the literal that it had
abbrev pub StaysVisited : List (Option Lit) → List (Option Lit) → Type 0
StaysVisited old new = (n : ℕ) (l : Lit) → visited old n ≡ Some l → visited new n ≡ Some l

-- the literals that stand for so many nodes before any other node is visited
pub record FirstsOf (sources count : ℕ) (literals : List (Option Lit)) : Type 0 where
  pub all : length literals ≡ count
  pub each : (n : ℕ) → n < count → visited literals n ≡ first_literal sources n
  pub few : sum_by unvisited literals + (sources + 1) ≤ count

-- Rows and literals made again: hashed rows, no more of them than before, and none but for sources and reached ANDs; literals of the same values, none of them higher. A literal of a source stays.
pub record IsMadeAgain (count : ℕ) (rows : List Row) (lits : List Lit) (new_rows : List Row) (new_lits : List Lit) : Type 0 where
  pub hashed : IsHashed count new_rows
  pub same_count : length new_lits ≡ length lits
  pub within : All (λ l. node_of l < length new_rows) new_lits
  pub fewer : length new_rows ≤ length rows
  pub ands : (k : ℕ) → Ands rows lits k → length new_rows ≤ count + 1 + k
  pub same_values : SameValues count rows lits new_rows new_lits
  pub levels : (level : ℕ → ℕ) → HasLevels rows level → (i : ℕ) → i < length lits → level_by new_rows (lit_at new_lits i) ≤ level (node_of (lit_at lits i))
  pub sources_stay : (i : ℕ) (l : Lit) → i < length lits → node_of l < count + 1 → lit_at lits i ≡ l → lit_at new_lits i ≡ l

-- The same of hashed rows, by their computed values and levels, but for the bound by reached ANDs.
pub record IsRebuilt (count : ℕ) (rows : List Row) (lits : List Lit) (new_rows : List Row) (new_lits : List Lit) : Type 0 where
  pub hashed : IsHashed count new_rows
  pub same_count : length new_lits ≡ length lits
  pub within : All (λ l. node_of l < length new_rows) new_lits
  pub fewer : length new_rows ≤ length rows
  pub same_function : (bits : List Bool) → rows_function new_rows new_lits bits ≡ rows_function rows lits bits
  pub levels : (i : ℕ) → i < length lits → level_by new_rows (lit_at new_lits i) ≤ level_by rows (lit_at lits i)
  pub sources_stay : (i : ℕ) (l : Lit) → i < length lits → node_of l < count + 1 → lit_at lits i ≡ l → lit_at new_lits i ≡ l
