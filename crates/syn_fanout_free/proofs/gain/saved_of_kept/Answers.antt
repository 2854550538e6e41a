use Rattle.std.proofs.Common.{◌+◌, ◌&&◌, List, ℕ, length, subst, sym, ap₂, ◌∙◌, w64, arith, rules}
use Rattle.std.proofs.lemmas.Int.{to_z-of_z}
use mir.Val.{SFits}
use Rattle.syn_rows.specs.Rows.{row_at}
use Rattle.syn_rows.specs.Reach.{is_and}
use Rattle.syn_fanout_free.specs.Freed.{IsFreedByCount}
use Rattle.syn_fanout_free.specs.Freeing.{open_to}
use Rattle.syn_rows.specs.Nodes.{has_node}
use Rattle.syn_fanout_free.specs.Saved.{IsSaved, replaced, count_in}
use Rattle.syn_fanout_free.proofs.Numbers.{one_if-le, count-le}
use Rattle.syn_fanout_free.proofs.Ends.{saved_by_cone}
use Rattle.syn_fanout_free.proofs.Sweeps.{keeping_sorted}
use Rattle.syn_fanout_free.proofs.gain.saved_of_kept.Goals as goal

pub overflow_add-lost : goal.overflow_add-lost
overflow_add-lost c =
    omega (
      arith,
      c.and_count.ensures.number,
      one_if-le (is_and (row_at c.args.was.now c.args.change.node)),
      c.in_ok-dead.ensures.ands,
      c.requires.few,
      count-le (length c.args.was.now) (λ m. is_and (row_at c.args.was.now m) && has_node c.in_ok-dead.dead.nodes.items m),
    )

pub returns : goal.returns
returns c observed owned =
    let f : SFits w64 c.difference.result = search rules in
    let dead : List ℕ = c.in_ok-dead.dead.nodes.items in
    let free = subst (λ (u : List ℕ). IsFreedByCount c.args.was.now (count_in c.args.counts.now) c.args.change.node (open_to c.args.was.now c.args.change.node u) (λ m. has_node dead m))
    c.as_slice.ensures (c.in_ok-dead.ensures.freed (omega arith)) in
    subst (IsSaved c.args.was.now (replaced c.args.was.now c.args.change.node c.args.change.row c.args.change.extra.now) observed)
    (sym (to_z-of_z w64 c.difference.result f ∙ c.difference.ensures))
    (saved_by_cone c.args.was.now observed (count_in c.args.counts.now) c.args.change.node c.args.change.row c.args.change.extra.now
    c.args.kept.now.marks.items c.sort_used.new.used.items dead
    (c.and_count.result + c.in_ok-dead.dead.ands) c.added_ands-added.result
    c.requires.there owned c.requires.extra
    (keeping_sorted (length c.args.was.now) c.args.change.row c.args.change.extra.now 0 c.args.kept.now.marks.items c.args.kept.now.used.items c.sort_used.new.used.items c.sort_used.ensures.same c.requires.keeping) free
    (ap₂ (λ a b. a + b) c.and_count.ensures.number c.in_ok-dead.ensures.ands)
    c.added_ands-added.ensures)
