use Rattle.std.proofs.Common.{◌≡◌, ◌++◌, ◌≤◌, drop, filter, length, map, take}
use Rattle.std.specs.List.{flat_map}
use Rattle.syn_resub.specs.Forms.{ands_over, stands_for}
use Rattle.syn_resub.specs.Sides.{divisor_of}
use Rattle.syn_resub.proofs.form_search.push_ands_with.Given as goal

abbrev pub invariant-loop-second : goal.invariant-loop-second
invariant-loop-second l = record {
  within : l.second-index ≤ length l.others;
  few : length l.found.items ≤ 16;
  rest : take 16 (l.found.items ++ filter (stands_for l.graph.rows l.divided.leaves.items l.node) (flat_map (ands_over (divisor_of l.first)) (map divisor_of (drop l.second-index l.others))))
      ≡ take 16 (l.fn.found.items ++ filter (stands_for l.graph.rows l.divided.leaves.items l.node) (flat_map (ands_over (divisor_of l.first)) (map divisor_of l.others)));
}
