use Rattle.std.proofs.Common.{◌≡◌, ◌≤◌, ℕ, ◌+◌, drop, get_or}
use Rattle.syn_report.specs.Levels.{how_many}
use Rattle.syn_report.proofs.levels.count_levels.Given as goal

abbrev pub invariant-loop-level : goal.invariant-loop-level
invariant-loop-level l = record {
  few : (n : ℕ) → get_or l.counts n 0 ≤ l.level-index;
  left : (n : ℕ) → get_or l.counts n 0 + how_many n (drop l.level-index l.levels) ≡ how_many n l.levels;
}
