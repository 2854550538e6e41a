use Rattle.std.proofs.Common.{◌≡◌, ◌++◌, map, drop}
use Rattle.syn_rows.specs.Rows.{node_of}
use Rattle.syn_rows.specs.Levels.{level_in}
use Rattle.syn_report.proofs.levels.levels_at.Given as goal

abbrev pub invariant-loop-lit : goal.invariant-loop-lit
invariant-loop-lit l = l.found.items ++ map (λ x. level_in l.levels (node_of x)) (drop l.lit-index l.lits) ≡ map (λ x. level_in l.levels (node_of x)) l.lits
