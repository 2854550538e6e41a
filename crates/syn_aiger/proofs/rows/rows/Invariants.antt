use Rattle.std.proofs.Common.{◌≡◌, ◌++◌, true, map, drop}
use Rattle.std.specs.List.{list_all}
use Rattle.syn_aiger.specs.Placing.{and_row, has_sides, rows_in}
use Rattle.syn_aiger.proofs.rows.rows.Given as goal

abbrev pub invariant-loop-a : goal.invariant-loop-a
invariant-loop-a l = record {
  rows : l.rows.items ++ map (and_row l.file.aig) (drop l.a-index l.file.aig.ands) ≡ rows_in l.file.aig;
  sides : list_all (has_sides l.file.aig) (drop l.a-index l.file.aig.ands) ≡ true;
}
