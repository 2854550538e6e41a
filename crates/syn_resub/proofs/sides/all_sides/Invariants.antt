use Rattle.std.proofs.Common.{◌≡◌, ◌++◌, ◌≤◌, All, drop, filter, length, map}
use Rattle.syn_resub.specs.Sides.{AreSides, divisor_of, may_stand}
use Rattle.syn_resub.proofs.sides.all_sides.Given as goal

abbrev pub invariant-loop-place : goal.invariant-loop-place
invariant-loop-place l = record {
  within : l.place ≤ length l.divided.nodes.items;
  few : length l.all.items ≤ l.place;
  rest : map divisor_of l.all.items ++ filter (may_stand l.graph.rows l.divided.leaves.items l.node) (drop l.place l.divided.nodes.items) ≡ filter (may_stand l.graph.rows l.divided.leaves.items l.node) l.divided.nodes.items;
  sides : All (AreSides l.graph.rows l.divided.leaves.items l.node) l.all.items;
}
