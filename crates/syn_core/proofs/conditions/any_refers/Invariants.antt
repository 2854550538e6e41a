use Rattle.std.proofs.Common.{◌≡◌, drop}
use Rattle.syn_core.specs.Conditions.{refers_by, any_node}
use Rattle.syn_core_laws.specs.Lists.{look}
use Rattle.syn_core.proofs.conditions.any_refers.Given as goal

abbrev pub invariant-loop-x : goal.invariant-loop-x
invariant-loop-x l = any_node (λ m. refers_by l.node (look m l.rows)) (drop l.x-index l.rows) ≡ any_node (λ m. refers_by l.node (look m l.rows)) l.rows
