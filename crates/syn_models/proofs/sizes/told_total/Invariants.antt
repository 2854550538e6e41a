use Rattle.std.proofs.Common.{◌≡◌, ◌≤◌, map, drop}
use Rattle.syn_models.specs.FlatFaults.{greatest}
use Rattle.syn_models.specs.Numbered.{total_at}
use Rattle.syn_models.specs.Totals.{told_sum}
use Rattle.syn_models.proofs.sizes.told_total.Given as goal

abbrev pub invariant-loop-m : goal.invariant-loop-m
invariant-loop-m l = record {
  left : told_sum l.sum (map (total_at l.totals) (drop l.m-index l.inner)) ≡ told_sum l.words (map (total_at l.totals) l.inner);
  small : l.sum ≤ greatest;
}
