use Rattle.std.proofs.Common.{◌==◌, not, List, ℕ, subst, sym, ap, ◌∙◌, arith}
use Rattle.syn_rows.specs.Nodes.{has_node}
use Rattle.syn_fanout_free.specs.Freeing.{IsFreeing, open_to, ands_among}
use Rattle.syn_fanout_free.specs.Saved.{count_in}
use Rattle.syn_fanout_free.specs.Waits.{waits_in}
use Rattle.syn_fanout_free.proofs.Steps.{freeing_begins, freeing_takes, freeing_ends, open_gates, tally_none}
use Rattle.syn_fanout_free.proofs.cone.freed.Goals as goal

pub loop-node-init : goal.loop-node-init
loop-node-init c = record {
  freeing =
      subst (λ (l : List ℕ). IsFreeing c.args.rows.now (count_in c.args.counts.now) c.args.n (open_to c.args.rows.now c.args.n c.args.used.now) c.args.n l (waits_in c.add_references.new.waiting))
      (sym c.new.ensures.items)
      (freeing_begins c.args.rows.now (count_in c.args.counts.now) c.args.n (open_to c.args.rows.now c.args.n c.args.used.now) (waits_in c.add_references.new.waiting)
      c.requires.order c.requires.referred (λ m h. open_gates c.args.rows.now (not (m == c.args.n)) (not (has_node c.args.used.now m)) m h)
      (λ m. omega (arith, c.in_ok-add_references.ensures m, c.new-waiting.ensures m)));
  ands = sym (ap (ands_among c.args.rows.now) c.new.ensures.items ∙ tally_none c.args.rows.now);
}

pub settle-requires-clause-taken : goal.settle-requires-clause-taken
settle-requires-clause-taken c =
    freeing_takes c.args.rows.now (count_in c.args.counts.now) c.args.n (open_to c.args.rows.now c.args.n c.args.used.now) c.loop-node.bound c.loop-node.dead.nodes.items
    (waits_in c.loop-node.waiting) (waits_in c.take.new.self) c.in-Some.node c.in-Some.often
    c.requires.referred (λ m h. open_gates c.args.rows.now (not (m == c.args.n)) (not (has_node c.args.used.now m)) m h)
    c.loop-node.invariant.freeing c.in-Some.ensures.some.0 c.in-Some.ensures.some.1 c.in-Some.ensures.rest c.in-Some.ensures.greatest

pub returns-clause-freed : goal.returns-clause-freed
returns-clause-freed c = λ few.
    freeing_ends c.args.rows.now (count_in c.args.counts.now) c.args.n (open_to c.args.rows.now c.args.n c.args.used.now) c.loop-node.bound c.loop-node.dead.nodes.items
    (waits_in c.loop-node.waiting) c.requires.referred (λ m h. open_gates c.args.rows.now (not (m == c.args.n)) (not (has_node c.args.used.now m)) m h)
    c.loop-node.invariant.freeing c.in_default.ensures.none
