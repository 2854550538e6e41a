use Rattle.std.proofs.Common.{ℕ, List, [], length, ap, ◌∙◌, arith}
use Rattle.std.proofs.lemmas.List.{length_push}
use Rattle.syn_rows.specs.Levels.{level_in}
use Rattle.syn_rows.specs.Rows.{fold_rows, row_at}
use Rattle.syn_lutnet.proofs.LutDepths.{low_next}
use Rattle.syn_cuts.specs.Lists.{nontrivial}
use Rattle.syn_map.specs.Labels.{row_label}
use Rattle.syn_map.proofs.Leastness.{label_next}
use Rattle.syn_map.proofs.labels.labels.Goals as goal

pub loop-n-preserved : goal.loop-n-preserved
loop-n-preserved c =
    let done : List ℕ = c.loop-n.labels.items in
    let pushed = c.in_ok-push.ensures.items in
    let long = ap (λ (ls : List ℕ). length ls) pushed ∙ length_push done c.row_label-label.result in
    let slice = c.as_slice.ensures.value in
    record {
      left = label_next c.args.lists.now c.args.rows.now done c.push.new.self.items c.loop-n.n c.row_label-label.result (fold_rows (row_label (nontrivial c.args.lists.now)) 0 [] c.args.rows.now) pushed c.loop-n.invariant.same
          (c.row_label-label.ensures.label ∙ ap (λ (ls : List ℕ). row_label (nontrivial c.args.lists.now) (level_in ls) c.loop-n.n (row_at c.args.rows.now c.loop-n.n)) slice) c.loop-n-test.true c.loop-n.invariant.left;
      count = omega (arith, c.loop-n.invariant.count, c.in_ok-push.ensures.len);
      same = omega (arith, long, c.loop-n.invariant.same);
      low = low_next done c.push.new.self.items c.row_label-label.result pushed (omega (arith, c.row_label-label.ensures.low, ap (λ (ls : List ℕ). length ls) slice)) c.loop-n.invariant.low;
    }
