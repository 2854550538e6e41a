use Rattle.std.proofs.Common.{◌≡◌, ◌++◌, ◌≤◌, drop, filter, length, map, take}
use Rattle.syn_resub.specs.Forms.{all_ands, stands_for}
use Rattle.syn_resub.specs.Sides.{divisor_of}
use Rattle.syn_resub.proofs.form_search.push_ands.Given as goal

abbrev pub invariant-loop-i : goal.invariant-loop-i
invariant-loop-i l = record {
  within : l.i ≤ length l.sides;
  few : length l.found.items ≤ 16;
  rest : take 16 (l.found.items ++ filter (stands_for l.graph.rows l.divided.leaves.items l.node) (all_ands (map divisor_of (drop l.i l.sides))))
      ≡ take 16 (l.fn.found.items ++ filter (stands_for l.graph.rows l.divided.leaves.items l.node) (all_ands (map divisor_of l.sides)));
}
