use Rattle.std.proofs.Common.{◌≡◌, ◌+◌, ◌-◌, ◌≤◌, ◌<◌, ℕ, map, true}
use Rattle.syn_models.specs.Calling.{clash_among}
use Rattle.syn_models.specs.Flattening.{inner_name}
use Rattle.syn_models.specs.Walking.{entry_in}
use Rattle.syn_models.proofs.Slashes.{bytes_in}
use Rattle.syn_models.proofs.slash_counts.slash_count.Given as goal

abbrev pub invariant-loop-count : goal.invariant-loop-count
invariant-loop-count l = record {
  some : 1 ≤ l.count;
  fewest : (fewer : ℕ) → 1 ≤ fewer → fewer < l.count → clash_among l.names (inner_name fewer) 1 (map entry_in l.instances) ≡ true;
}

abbrev pub decreases-loop-count : goal.decreases-loop-count
decreases-loop-count l = bytes_in l.names + 1 - l.count
