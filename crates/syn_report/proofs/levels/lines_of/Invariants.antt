use Rattle.std.proofs.Common.{◌≡◌, get_or}
use Rattle.syn_report.specs.Levels.{lines_below}
use Rattle.syn_report.proofs.levels.lines_of.Given as goal

abbrev pub invariant-loop-level : goal.invariant-loop-level
invariant-loop-level l = l.text.items ≡ lines_below (λ n. get_or l.counts n 0) l.level
