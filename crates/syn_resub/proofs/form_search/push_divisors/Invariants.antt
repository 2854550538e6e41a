use Rattle.std.proofs.Common.{◌≡◌, ◌++◌, ◌≤◌, drop, filter, length, map, take}
use Rattle.std.specs.List.{flat_map}
use Rattle.syn_resub.specs.declared.forms.Form.TheVariants.{One}
use Rattle.syn_resub.specs.Forms.{literals_of, stands_for}
use Rattle.syn_resub.proofs.form_search.push_divisors.Given as goal

abbrev pub invariant-loop-place : goal.invariant-loop-place
invariant-loop-place l = record {
  within : l.place ≤ length l.divided.nodes.items;
  few : length l.found.items ≤ 16;
  rest : take 16 (l.found.items ++ filter (stands_for l.graph.rows l.divided.leaves.items l.node) (map One (flat_map literals_of (drop l.place l.divided.nodes.items))))
      ≡ take 16 (l.fn.found.items ++ filter (stands_for l.graph.rows l.divided.leaves.items l.node) (map One (flat_map literals_of l.divided.nodes.items)));
}
