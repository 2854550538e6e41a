use Rattle.std.proofs.Common.{◌≡◌, ◌++◌, ◌||◌, drop}
use Rattle.syn_rows.specs.Nodes.{has_node}
use Rattle.syn_core_laws.specs.Lists.{kept}
use Rattle.syn_core.proofs.seat_views.mine_told.Given as goal

abbrev pub invariant-loop-x : goal.invariant-loop-x
invariant-loop-x l = l.out.items ++ kept (λ n. has_node l.held n || has_node l.pins n) (drop l.x-index l.keys) ≡ kept (λ n. has_node l.held n || has_node l.pins n) l.keys
