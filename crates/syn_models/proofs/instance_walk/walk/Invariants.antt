use Rattle.std.proofs.Common.{◌≡◌, ◌+◌, ◌-◌, ◌*◌, ◌^◌, length}
use Rattle.syn_models.specs.Files.{all_in}
use Rattle.syn_models.specs.Walking.{IsWalk}
use Rattle.syn_models.proofs.instance_walk.walk.Given as goal

abbrev pub invariant-loop-level : goal.invariant-loop-level
invariant-loop-level l = record {
  main : l.walked.main.now ≡ l.main;
  walk : IsWalk (all_in l.file) l.main l.walked.instances.items l.walked.parts.items l.levels.items;
}

abbrev pub decreases-loop-level : goal.decreases-loop-level
decreases-loop-level l = 2 ^ 65 + length l.levels.items - (length l.walked.parts.items + 2 * length l.walked.instances.items)
