-- What is listed of a graph's levels.
use Rattle.std.specs.Prelude.{◌≡◌, ℕ, List}
use Rattle.syn_rows.specs.declared.Row.{Row}
use Rattle.syn_rows.specs.Levels.{levels_of}
use Rattle.syn_hashed.specs.Indexed.{IsIndexOf}
use Rattle.syn_hashed.specs.declared.pairs.PairIndex.{PairIndex}

-- the index of the pairs of rows, and the levels of their nodes
pub record IsLeveled (rows : List Row) (pairs : PairIndex) (levels : List ℕ) : Type 0 where
  pub index : IsIndexOf rows pairs
  pub levels_are : levels ≡ levels_of rows
