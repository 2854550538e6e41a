use Rattle.std.proofs.Common.{◌≡◌, ◌++◌, drop, map}
use Rattle.syn_hashed.specs.Compacting.{moved_row}
use Rattle.syn_compare.specs.Renaming.{node_in}
use Rattle.syn_compare.proofs.renaming.renamed_rows.Given as goal

abbrev pub invariant-loop-row : goal.invariant-loop-row
invariant-loop-row l = l.found.items ++ map (moved_row (node_in l.nodes)) (drop l.row-index l.rows) ≡ map (moved_row (node_in l.nodes)) l.rows
