use Rattle.std.proofs.Common.{◌≡◌, All, Bool, List, length}
use Rattle.syn_fraig.specs.Tables.{AreTables, nodes_at}
use Rattle.syn_fraig.proofs.tables.fill.Given as goal

abbrev pub invariant-loop-node : goal.invariant-loop-node
invariant-loop-node l = record {
  long : length l.tables.items ≡ l.node;
  vars : All (λ t. t.vars ≡ 8) l.tables.items;
  values : (xs : List Bool) → length xs ≡ 8 → AreTables l.tables.items (nodes_at l.rows l.round xs) xs;
}
