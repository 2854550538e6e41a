use Rattle.std.proofs.Common.{◌≡◌, map, drop}
use Rattle.std.specs.List.{list_any}
use Rattle.syn_models.specs.Flattening.{inner_name}
use Rattle.syn_models.specs.ReadBack.{taken_by}
use Rattle.syn_models.specs.Walking.{entry_in}
use Rattle.syn_models.proofs.slash_counts.any_taken.Given as goal

abbrev pub invariant-loop-i : goal.invariant-loop-i
invariant-loop-i l = list_any (taken_by (inner_name l.count) 1 (map entry_in l.instances)) (drop l.i l.names) ≡ list_any (taken_by (inner_name l.count) 1 (map entry_in l.instances)) l.names
