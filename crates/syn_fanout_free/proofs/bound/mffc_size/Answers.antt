use Rattle.std.proofs.Common.{◌≡◌, ◌≤◌, ◌+◌, ◌&&◌, length, ap₂, arith}
use Rattle.syn_rows.specs.Rows.{row_at}
use Rattle.syn_rows.specs.Reach.{is_and}
use Rattle.syn_rows.specs.Nodes.{has_node}
use Rattle.syn_fanout_free.specs.Saved.{count_in}
use Rattle.syn_fanout_free.proofs.Bounded.{lost_is_but, most_of_all, most_of_but}
use Rattle.syn_fanout_free.proofs.Numbers.{one_if-le, count-le}
use Rattle.syn_fanout_free.proofs.bound.mffc_size.Goals as goal

pub overflow_add-result : goal.overflow_add-result
overflow_add-result c =
    omega (
      arith,
      c.and_count.ensures.number,
      one_if-le (is_and (row_at c.args.was.now c.args.n)),
      c.in_ok-dead.ensures.ands,
      c.requires.few,
      count-le (length c.args.was.now) (λ m. is_and (row_at c.args.was.now m) && has_node c.in_ok-dead.dead.nodes.items m),
    )

pub returns-then-dead-limit-clause-most : goal.returns-then-dead-limit-clause-most
returns-then-dead-limit-clause-most c = most_of_all c.args.was.now (count_in c.args.counts.now) c.args.n c.args.spared.now 4294967295 (omega (arith, c.requires.few))

pub returns-clause-most : goal.returns-clause-most
returns-clause-most c =
    most_of_but c.args.was.now (count_in c.args.counts.now) c.args.n c.args.spared.now (c.and_count.result + c.in_ok-dead.dead.ands)
    (lost_is_but c.args.was.now (count_in c.args.counts.now) c.args.n c.args.spared.now c.in_ok-dead.dead.nodes.items (c.and_count.result + c.in_ok-dead.dead.ands)
    c.requires.there (c.in_ok-dead.ensures.freed c.if-dead-limit.false) (ap₂ (λ a b. a + b) c.and_count.ensures.number c.in_ok-dead.ensures.ands))

pub returns-clause-exact : goal.returns-clause-exact
returns-clause-exact c = λ le.
    lost_is_but c.args.was.now (count_in c.args.counts.now) c.args.n c.args.spared.now c.in_ok-dead.dead.nodes.items (c.and_count.result + c.in_ok-dead.dead.ands)
    c.requires.there (c.in_ok-dead.ensures.freed c.if-dead-limit.false) (ap₂ (λ a b. a + b) c.and_count.ensures.number c.in_ok-dead.ensures.ands)
