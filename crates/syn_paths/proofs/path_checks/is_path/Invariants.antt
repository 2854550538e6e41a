use Rattle.std.proofs.Common.{◌≡◌, drop}
use Rattle.syn_paths.specs.Checking.{goes_up, is_list}
use Rattle.syn_paths.proofs.path_checks.is_path.Given as goal

abbrev pub invariant-loop-i : goal.invariant-loop-i
invariant-loop-i l = is_list l.rows l.labels l.level l.marks l.stamp l.list ≡ goes_up l.rows l.labels l.level l.marks l.stamp l.last (drop l.i l.list)
