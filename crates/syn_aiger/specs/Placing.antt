-- The places of variables among those that are defined, which are the nodes that they become.
use Rattle.std.specs.Prelude.{ℕ, suc, ◌≡◌, ◌+◌, ◌*◌, ◌%◌, ◌^◌, ◌≤◌, ◌&&◌, ◌==◌, not, nat_eq, nat_le, Bool, true, if◌then◌else◌, List, [], ◌∷◌, ◌++◌, length, map, replicate, option_map, Option, Some, None}
use Rattle.std.specs.List.{list_all}
use Rattle.std.specs.HashMap.{get}
use Rattle.syn_rows.specs.declared.Lit.{Lit}
use Rattle.syn_rows.specs.declared.Row.{Row}
use Rattle.syn_rows.specs.declared.Row.TheVariants.{Source, And}
use Rattle.syn_lists.specs.Numbers.{distinct_numbers, has_number}
use Rattle.syn_netlist.specs.Numbers.{all_below}
use Rattle.syn_aiger_files.specs.declared.files.Aig.{Aig}
use Rattle.syn_aiger_files.specs.declared.files.AigAnd.{AigAnd}
use Rattle.syn_aiger_files.specs.declared.files.AigLatch.{AigLatch}
use Rattle.syn_aiger_files.specs.Files.{next_of, variable_of}
use Rattle.syn_aiger_files.specs.Parts.{is_reset}
use Rattle.syn_aiger_files.specs.Spelling.{most_variables}
use Rattle.syn_aiger.specs.declared.places.Places.{Places}
use Rattle.syn_aiger.specs.Values.{defined_variables, source_literals}

-- the place of a number in a list, from 0, where it is there
abbrev pub place_in : List ℕ → ℕ → Option ℕ
place_in [] v = None
place_in (n ∷ ns) v = if nat_eq n v then Some 0 else option_map suc (place_in ns v)

-- the place that the code finds
abbrev pub found : Places → ℕ → Option ℕ
found p v = if nat_le v p.run then Some v else get nat_eq p.others v

-- The places are those of these variables.
pub record HasPlaces (p : Places) (known : List ℕ) : Type 0 where
  pub count : p.count ≡ length known
  pub at : (v : ℕ) → found p v ≡ place_in known v

abbrev pub or_zero : Option ℕ → ℕ
or_zero None = 0
or_zero (Some n) = n

-- the node of a variable
abbrev pub node_in : Aig → ℕ → ℕ
node_in g v = or_zero (place_in (defined_variables g) v)

-- the literal of rows that a literal of a file becomes
abbrev pub lit_in : Aig → ℕ → Lit
lit_in g l = record { 0 = 2 * node_in g (variable_of l) + l % 2 }

-- the row of an AND
abbrev pub and_row : Aig → AigAnd → Row
and_row g a = And (lit_in g a.second) (lit_in g a.first)

-- the rows of a file: the constant, the sources, then its ANDs in the order of the file
abbrev pub rows_in : Aig → List Row
rows_in g = replicate (length (source_literals g) + 1) Source ++ map (and_row g) g.ands

-- a literal's variable is defined
abbrev pub is_defined : Aig → ℕ → Bool
is_defined g l = has_number (defined_variables g) (variable_of l)

-- a variable isn't
abbrev pub is_undefined : Aig → ℕ → Bool
is_undefined g v = not (has_number (defined_variables g) v)

-- what an AND reads is defined
abbrev pub has_sides : Aig → AigAnd → Bool
has_sides g a = is_defined g a.first && is_defined g a.second

-- All that a file reads is defined.
pub record ReadsDefined (g : Aig) : Type 0 where
  pub next : list_all (is_defined g) (map next_of g.latches) ≡ true
  pub outputs : list_all (is_defined g) g.outputs ≡ true
  pub sides : list_all (has_sides g) g.ands ≡ true

-- the literal is plain
abbrev pub is_plain : ℕ → Bool
is_plain l = l % 2 == 0

-- the reset is allowed
abbrev pub has_reset : AigLatch → Bool
has_reset a = is_reset a.literal a.reset

-- What is so of each file that is said: no variable is defined twice, all are small and few, the sources' literals are plain, resets are allowed, and there are few outputs.
pub record IsSound (g : Aig) : Type 0 where
  pub once : distinct_numbers (defined_variables g) ≡ true
  pub small : all_below (2 ^ 28) (defined_variables g) ≡ true
  pub few : length (defined_variables g) ≤ 2 ^ 28
  pub plain : list_all is_plain (source_literals g) ≡ true
  pub resets : list_all has_reset g.latches ≡ true
  pub outputs : length g.outputs ≤ most_variables
