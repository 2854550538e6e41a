-- What is listed once for a graph, before its nodes are asked for.
use Rattle.std.specs.Prelude.{◌≡◌, ℕ, true, List, length}
use Rattle.syn_rows.specs.declared.Row.{Row}
use Rattle.syn_rows.specs.Rows.{row_at}
use Rattle.syn_rows.specs.Reach.{is_and}
use Rattle.syn_cuts.specs.Cuts.{listed_cuts}
use Rattle.syn_cut_functions.specs.Cuts.{AreLeavesOf}
use Rattle.syn_cut_functions.specs.Functions.{HaveFunctions, IsFunctionOver}
use Rattle.syn_rewrite.specs.declared.prepared.Prepared.{Prepared}

-- A cut of an AND, with the number of its function over it.
pub record IsRooted (rows : List Row) (root : ℕ) (leaves : List ℕ) (number : ℕ) : Type 0 where
  pub gate : is_and (row_at rows root) ≡ true
  pub cut : AreLeavesOf rows root leaves
  pub function : IsFunctionOver rows leaves root number

-- The listed cuts, and for each AND its functions over them.
pub record IsPreparedFor (lists : Prepared) (rows : List Row) : Type 0 where
  pub cuts : lists.cuts ≡ listed_cuts 4 rows
  pub count : length lists.functions.items ≡ length rows
  pub functions : HaveFunctions rows lists.functions.items
