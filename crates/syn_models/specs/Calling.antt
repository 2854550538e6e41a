-- What the names of all instances are called, instance by instance, and by which numbers.
use Rattle.std.specs.Prelude.{◌≡◌, ℕ, suc, ◌+◌, ◌<◌, ◌≤◌, ◌||◌, Bool, true, false, List, [], ◌∷◌, length, map, slice_index_or}
use Rattle.std.specs.List.{list_any}
use Rattle.syn_netlist.specs.Lists.{Latch, Table}
use Rattle.syn_netlist.specs.Numbers.{all_below}
use Rattle.syn_models.specs.declared.met.Instance as met
use Rattle.syn_models.specs.declared.met.Part.{Part}
use Rattle.syn_models.specs.Called.{Spells}
use Rattle.syn_models.specs.Flattening.{called_inside, inner_name, latches_called, tables_called, taken}
use Rattle.syn_models.specs.Models.{StatementKind}
use Rattle.syn_models.specs.Walking.{Entry, inner_names}

-- `calls k` is what the names of instance k are called; `inner k` are its inner names, and `next` is the number of the first of these instances.
abbrev pub Calls : (ℕ → List ℕ → List ℕ) → (ℕ → List ℕ → List ℕ) → ℕ → List Entry → Type 0
Calls calls inner next [] = Unit {0}
Calls calls inner next (e ∷ es) = (calls next ≡ called_inside (calls e.outer) (inner next) e.binds) × Calls calls inner (suc next) es

-- whether some inner name that is used is among the names
abbrev pub clash_among : List (List ℕ) → (ℕ → List ℕ → List ℕ) → ℕ → List Entry → Bool
clash_among names inner next [] = false
clash_among names inner next (e ∷ es) = list_any (taken names (inner next) e.binds) e.inside.names || clash_among names inner (suc next) es

-- The number of slashes: the fewest, at least one, for which no inner name is among the names.
pub record IsFewest (names : List (List ℕ)) (list : List Entry) (count : ℕ) : Type 0 where
  pub some : 1 ≤ count
  pub apart : clash_among names (inner_name count) 1 list ≡ false
  pub fewest : (fewer : ℕ) → 1 ≤ fewer → fewer < count → clash_among names (inner_name fewer) 1 list ≡ true

-- how many names the instances have
abbrev pub inner_count : List met.Instance → ℕ
inner_count [] = 0
inner_count (i ∷ is) = length (inner_names i) + inner_count is

-- the map of numbers of an instance, and its names
abbrev pub map_at : List (List ℕ) → ℕ → List ℕ
map_at maps k = slice_index_or maps k []

abbrev pub home_at : List (List (List ℕ)) → ℕ → List (List ℕ)
home_at homes k = slice_index_or homes k []

-- There is a map for each instance, with a number below the count for each of its names.
pub record AreMaps (count : ℕ) (homes : List (List (List ℕ))) (maps : List (List ℕ)) : Type 0 where
  pub all : length maps ≡ length homes
  pub sizes : (k : ℕ) → k < length homes → length (map_at maps k) ≡ length (home_at homes k)
  pub below : (k : ℕ) → k < length homes → all_below count (map_at maps k) ≡ true

-- Each map has the numbers of what the names of its instance are called.
abbrev pub AreSpelled : List (List ℕ) → List (List (List ℕ)) → (ℕ → List ℕ → List ℕ) → List (List ℕ) → Type 0
AreSpelled all homes calls maps = (k : ℕ) → k < length homes → Spells all (home_at homes k) (calls k) (map_at maps k)

-- The statement's instance has a map, with a number for each of its names.
pub record IsMapped (maps : List (List ℕ)) (p : Part) : Type 0 where
  pub there : p.place.number < length maps
  pub size : length (map_at maps p.place.number) ≡ length p.place.home.now.names

-- Its numbers are below the count.
abbrev pub BelowPart : ℕ → List (List ℕ) → Part → Type 0
BelowPart count maps p = all_below count (map_at maps p.place.number) ≡ true

abbrev pub SpelledPart : List (List ℕ) → (ℕ → List ℕ → List ℕ) → List (List ℕ) → Part → Type 0
SpelledPart all calls maps p = Spells all p.place.home.now.names (calls p.place.number) (map_at maps p.place.number)

-- what a statement gives, called as its instance's names are
abbrev pub latches_by : (ℕ → List ℕ → List ℕ) → ℕ × StatementKind → List Latch
latches_by calls p = latches_called (calls p.0) p.1

abbrev pub tables_by : (ℕ → List ℕ → List ℕ) → ℕ × StatementKind → List Table
tables_by calls p = tables_called (calls p.0) p.1
