use Rattle.std.proofs.Common.{◌<◌, ◌+◌, ◌&&◌, List, ℕ, length, subst, sym, ap, ap₂, ◌∙◌, arith}
use Rattle.syn_rows.specs.Reach.{is_and}
use Rattle.syn_rows.specs.Rows.{row_at}
use Rattle.syn_rows.specs.Nodes.{has_node}
use Rattle.syn_fanout_free.specs.Freeing.{IsFreeing, open_to, ands_among}
use Rattle.syn_fanout_free.specs.Saved.{count_in}
use Rattle.syn_fanout_free.specs.Waits.{waits_in}
use Rattle.syn_fanout_free.proofs.Numbers.{one_if-le, count-le}
use Rattle.syn_fanout_free.proofs.Steps.{freeing_frees, tally_more, taken_fresh}
use Rattle.syn_fanout_free.proofs.cone.settle.Goals as goal

pub overflow_add-dead : goal.overflow_add-dead
overflow_add-dead c =
    omega (
      arith,
      c.requires.ands,
      c.and_count.ensures.number,
      one_if-le (is_and (row_at c.args.rows.now c.args.node)),
      c.requires.few,
      count-le (length c.args.rows.now) (λ m. is_and (row_at c.args.rows.now m) && has_node c.args.dead.now.nodes.items m),
    )

pub returns-clause-freeing : goal.returns-clause-freeing
returns-clause-freeing c =
    let inside : c.args.node < length c.args.rows.now = omega (arith, c.requires.taken.below, c.requires.within) in
    subst (λ (l : List ℕ). IsFreeing c.args.rows.now (count_in c.args.counts.now) c.args.n (open_to c.args.rows.now c.args.n c.args.used.now) c.args.node l (waits_in c.add_references.new.waiting))
    (sym c.in_ok-push.ensures.ok)
    (freeing_frees c.args.rows.now (count_in c.args.counts.now) c.args.n (open_to c.args.rows.now c.args.n c.args.used.now) c.args.dead.now.nodes.items
    (waits_in c.args.waiting.now) (waits_in c.add_references.new.waiting) c.args.node c.args.often c.requires.order inside c.requires.taken (sym c.dies.ensures ∙ c.if-not-dies.false)
    c.in_ok-add_references.ensures)

pub returns-clause-ands : goal.returns-clause-ands
returns-clause-ands c =
    let inside : c.args.node < length c.args.rows.now = omega (arith, c.requires.taken.below, c.requires.within) in
    let fresh = taken_fresh c.args.rows.now (count_in c.args.counts.now) c.args.n (open_to c.args.rows.now c.args.n c.args.used.now) c.args.node c.args.often c.args.dead.now.nodes.items (waits_in c.args.waiting.now) c.requires.taken in
    ap₂ (λ a b. a + b) c.requires.ands c.and_count.ensures.number ∙ sym (tally_more c.args.rows.now c.args.dead.now.nodes.items c.args.node inside fresh)
    ∙ ap (ands_among c.args.rows.now) (sym c.in_ok-push.ensures.ok)
