use Rattle.std.proofs.Common.{◌≡◌, max, map, drop}
use Rattle.syn_rows.specs.Rows.{node_of}
use Rattle.syn_rows.specs.Levels.{level_in}
use Rattle.syn_report.specs.Levels.{greatest}
use Rattle.syn_shell.proofs.lines.greatest_level.Given as goal

abbrev pub invariant-loop-lit : goal.invariant-loop-lit
invariant-loop-lit l = max l.best (greatest (map (λ x. level_in l.levels (node_of x)) (drop l.lit-index l.lits))) ≡ greatest (map (λ x. level_in l.levels (node_of x)) l.lits)
