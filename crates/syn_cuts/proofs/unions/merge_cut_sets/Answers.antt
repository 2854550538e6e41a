use Rattle.std.proofs.Common.{◌+◌, take, drop, sym, ap, ◌∙◌}
use Rattle.syn_cuts.specs.Cuts.{arranged, unions, unions_with, merge_cut_sets}
use Rattle.syn_cuts.specs.Leaves.{leaves, leaves_of}
use Rattle.syn_cuts.proofs.Putting.{step_unions, kept_short, drop_leaves, drop_all_leaves}
use Rattle.syn_cuts.proofs.Refusing.{order_on}
use Rattle.syn_cuts.proofs.unions.merge_cut_sets.Goals as goal

pub loop-cut-preserved : goal.loop-cut-preserved
loop-cut-preserved c =
    let all = leaves_of c.args.left.now in
    let right = leaves_of c.args.right.now in
    let i = c.loop-cut.cut-index in
    let d = c.cut-item.result in
    record {
      rest = step_unions c.args.k (leaves d) (drop (i + 1) all) right (leaves_of c.loop-cut.kept.items) (leaves_of c.keep_unions.new.kept.items)
          (merge_cut_sets c.args.k all right)
          (drop i all) (drop_leaves c.args.left.now i d c.loop-cut-test.true c.cut-item.is) c.loop-cut.invariant.rest
          (c.keep_unions.ensures.kept ∙ ap (λ l. take 31 (arranged (leaves_of c.loop-cut.kept.items) (unions_with c.args.k l right))) c.as_slice.ensures.value);
      few = c.keep_unions.ensures.few;
      order = order_on (leaves_of c.loop-cut.kept.items) (leaves_of c.keep_unions.new.kept.items) (unions_with c.args.k c.as_slice.result.now right) c.loop-cut.invariant.order c.keep_unions.ensures.kept;
    }

pub returns : goal.returns
returns c =
    sym (kept_short c.loop-cut.kept.items c.loop-cut.invariant.few)
    ∙ ap (λ l. take 31 (arranged (leaves_of c.loop-cut.kept.items) (unions c.args.k l (leaves_of c.args.right.now)))) (sym (drop_all_leaves c.args.left.now c.loop-cut.cut-index c.loop-cut-test.false))
    ∙ c.loop-cut.invariant.rest
