use Rattle.std.proofs.Common.{◌≡◌, drop}
use Rattle.std.specs.List.{list_any}
use Rattle.syn_rows.specs.Rows.{row_at}
use Rattle.syn_weighing.specs.declared.all_new.TheConstants.{LEVELS}
use Rattle.syn_weighing.specs.AllNew.{joins, may_be_made}
use Rattle.syn_weighing.proofs.all_new.are_apart.Given as goal

abbrev pub invariant-loop-leaf : goal.invariant-loop-leaf
invariant-loop-leaf l =
    list_any (λ leaf. joins (may_be_made l.rows l.leaves LEVELS) (row_at l.rows leaf)) (drop l.leaf-index l.leaves) ≡ list_any (λ leaf. joins (may_be_made l.rows l.leaves LEVELS) (row_at l.rows leaf)) l.leaves
