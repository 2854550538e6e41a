use Rattle.std.proofs.Common.{◌+◌, ℕ, List, length, drop, ap, ap₂, ◌∙◌, arith}
use Rattle.std.proofs.lemmas.List.{length_push}
use Rattle.syn_lutnet.specs.LutData.{depth_in, greatest, signal_depths}
use Rattle.syn_lutnet.specs.Data.{lut_data, luts_data}
use Rattle.syn_lutnet.proofs.LutDepths.{luts_next, depth_next, low_next}
use Rattle.syn_lutnet.proofs.depths.signal_depths.Goals as goal

pub loop-lut-preserved : goal.loop-lut-preserved
loop-lut-preserved c =
    let done : List ℕ = c.loop-lut.depths.items in
    let pushed = c.in_ok-push.ensures.items in
    let same = ap (λ (ds : List ℕ). length ds) pushed ∙ length_push done c.lut_depth-depth.result in
    record {
      left = depth_next done c.push.new.self.items c.lut_depth-depth.result (lut_data c.lut-item.result) (luts_data (drop c.loop-lut.lut-index c.args.luts.now)) (luts_data (drop (c.loop-lut.lut-index + 1) c.args.luts.now))
          (signal_depths c.args.source_count (luts_data c.args.luts.now)) pushed
          (c.lut_depth-depth.ensures.depth ∙ ap₂ (λ (ds is : List ℕ). greatest (depth_in ds) is + 1) c.as_slice.ensures.value c.as_slice-in-loop-lut.ensures.value)
          (luts_next c.args.luts.now c.loop-lut.lut-index c.lut-item.result c.loop-lut-test.true c.lut-item.is) c.loop-lut.invariant.left;
      count = omega (arith, c.loop-lut.invariant.count, c.in_ok-push.ensures.len);
      same = omega (arith, same, c.loop-lut.invariant.same);
      low = low_next done c.push.new.self.items c.lut_depth-depth.result pushed (omega (arith, c.lut_depth-depth.ensures.low, ap (λ (ds : List ℕ). length ds) c.as_slice.ensures.value)) c.loop-lut.invariant.low;
    }
