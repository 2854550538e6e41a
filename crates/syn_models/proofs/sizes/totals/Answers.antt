use Rattle.std.proofs.Common.{◌≡◌, ℕ, ◌<◌, List, length, map, slice_index_or, refl, sym, ap₂, ◌∙◌, arith}
use Rattle.syn_netlist.proofs.Places.{below_at}
use Rattle.syn_models.specs.Numbered.{inner_at, total_at}
use Rattle.syn_models.specs.Totals.{told_sum}
use Rattle.syn_models.proofs.Sums.{counted_more, by_default}
use Rattle.syn_models.proofs.sizes.totals.Goals as goal

pub loop-m-preserved : goal.loop-m-preserved
loop-m-preserved c =
    let t : ℕ = slice_index_or c.args.order.now c.loop-m.m-index 0 in
    let below : slice_index_or c.args.order.now c.loop-m.m-index 0 < length c.args.words.now = below_at (length c.args.words.now) c.args.order.now c.loop-m.m-index c.requires.order (omega arith) in
    let there : slice_index_or c.args.order.now c.loop-m.m-index 0 < length c.loop-m.totals.items = omega arith in
    let inside : slice_index_or c.args.order.now c.loop-m.m-index 0 < length c.args.inner.now = omega arith in
    let is : c.told_total.result ≡ told_sum (slice_index_or c.args.words.now t 0) (map (total_at c.loop-m.totals.items) (inner_at c.args.inner.now t)) =
    c.told_total.ensures
    ∙ ap₂ (λ (ts ms : List ℕ). told_sum (slice_index_or c.args.words.now t 0) (map (total_at ts) ms)) c.as_slice.ensures.value
    (c.as_slice-in-loop-m.ensures ∙ sym (by_default c.args.inner.now t c.index-inner-m.result inside c.index-inner-m.is)) in
    counted_more c.args.words.now c.args.inner.now c.loop-m.totals.items c.args.order.now c.loop-m.m-index t c.told_total.result 0 (omega arith) refl there is c.loop-m.invariant
