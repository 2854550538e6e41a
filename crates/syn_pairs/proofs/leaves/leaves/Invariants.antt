use Rattle.std.proofs.Common.{◌≡◌}
use Rattle.syn_rows.specs.declared.Row.TheVariants.{And}
use Rattle.syn_rows.specs.Rows.{InOrder, row_at}
use Rattle.syn_pairs.specs.Conjunctions.{AreLeaves}
use Rattle.syn_pairs.proofs.leaves.leaves.Given as goal

abbrev pub invariant-loop : goal.invariant-loop
invariant-loop l = InOrder l.rows → row_at l.rows l.node ≡ And l.fn.a l.fn.b → AreLeaves l.rows l.node l.waiting.items l.found.items
