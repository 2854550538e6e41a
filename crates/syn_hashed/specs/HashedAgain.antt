-- Rows hashed again: what exactly compaction gives, but for the numbers of the new nodes.
use Rattle.std.specs.Prelude.{◌≡◌, ℕ, ◌+◌, ◌<◌, List, map, Option, Some}
use Rattle.syn_rows.specs.declared.Lit.{Lit}
use Rattle.syn_rows.specs.declared.Row.{Row}
use Rattle.syn_rows.specs.declared.Row.TheVariants.{Free, Source, And, Alias}
use Rattle.syn_rows.specs.Joining.{lit_of}
use Rattle.syn_rows.specs.Rows.{node_of, row_at}
use Rattle.syn_hashed.specs.Hashed.{IsHashed}
use Rattle.syn_hashed.specs.Joined.{literal_there}
use Rattle.syn_hashed.specs.Visiting.{IsVisit, visited, with_sign}

-- the literal that stands for a literal, where these stand for nodes
abbrev pub literal_by : (ℕ → Option Lit) → Lit → Option Lit
literal_by stands lit = with_sign lit (stands (node_of lit))

-- What stands for a node by its row: for an alias what stands for its literal, for an AND what those that stand for its two are joined to.
abbrev pub IsHashedRow : (ℕ → Option Lit) → List Row → Row → Lit → Type 0
IsHashedRow stands new Free l = ⊥
IsHashedRow stands new Source l = ⊥
IsHashedRow stands new (And a b) l = (x : Lit) × (y : Lit) × (literal_by stands a ≡ Some x) × (literal_by stands b ≡ Some y) × (literal_there new x y ≡ Some l)
IsHashedRow stands new (Alias a) l = literal_by stands a ≡ Some l

-- Rows and literals hashed again: node 0 and the sources stand for themselves, literals of the new rows stand for other nodes as their rows say, and the new literals are those that stand for the old ones.
pub record IsHashedAgain (count : ℕ) (rows : List Row) (lits : List Lit) (new_rows : List Row) (new_lits : List Lit) : Type 0 where
  pub stands : ℕ → Option Lit
  pub hashed : IsHashed count new_rows
  pub front : (n : ℕ) → n < count + 1 → stands n ≡ Some (lit_of n)
  pub made : (n : ℕ) (l : Lit) → count < n → stands n ≡ Some l → IsHashedRow stands new_rows (row_at rows n) l
  pub observed : map (λ l. Some l) new_lits ≡ map (literal_by stands) lits

-- Exactly what compaction gives of any rows: these hashed again, and then what is reached of the new rows, by other numbers.
pub record IsExactCompaction (count : ℕ) (rows : List Row) (lits : List Lit) (new_rows : List Row) (new_lits : List Lit) : Type 0 where
  pub mid_rows : List Row
  pub mid_lits : List Lit
  pub again : IsHashedAgain count rows lits mid_rows mid_lits
  pub kept : IsHashedAgain count mid_rows mid_lits new_rows new_lits

-- Nodes are visited, and for each that was, but for node 0 and the sources, the literal that its row gives stands.
pub record IsHashing (count : ℕ) (rows : List Row) (literals : List (Option Lit)) (new : List Row) : Type 0 where
  pub visit : IsVisit count rows literals new
  pub made : (n : ℕ) (l : Lit) → count < n → visited literals n ≡ Some l → IsHashedRow (visited literals) new (row_at rows n) l
