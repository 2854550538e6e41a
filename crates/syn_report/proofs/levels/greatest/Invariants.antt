use Rattle.std.proofs.Common.{◌≡◌, max, drop}
use Rattle.syn_report.specs.Levels.{greatest}
use Rattle.syn_report.proofs.levels.greatest.Given as goal

abbrev pub invariant-loop-level : goal.invariant-loop-level
invariant-loop-level l = max l.most (greatest (drop l.level-index l.levels)) ≡ greatest l.levels
