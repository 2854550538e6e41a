-- What an index of pairs is of.
use Rattle.std.specs.Prelude.{◌<◌, ◌^◌, List, length}
use Rattle.syn_rows.specs.declared.Row.{Row}
use Rattle.syn_hashed.specs.declared.pairs.PairIndex.{PairIndex}
use Rattle.syn_hashed.specs.Pairs.{IsIndex}

-- the index is that of the rows: it finds the row of each pair that one of them is the AND of, and no other
pub record IsIndexOf (rows : List Row) (x : PairIndex) : Type 0 where
  pub index : IsIndex (length x.heads.items) rows x.heads.items x.next.items
  pub few : length x.heads.items < 2 ^ 32
