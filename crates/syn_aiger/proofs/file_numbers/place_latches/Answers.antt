use Rattle.std.proofs.Common.{◌++◌, ◌+◌, List, ℕ, take, arith, sym, ap, ◌∙◌, subst}
use Rattle.syn_lists.specs.Numbers.{distinct_numbers}
use Rattle.syn_aiger_files.specs.Files.{latch_literal, variable_of}
use Rattle.syn_aiger_files.specs.declared.files.AigLatch.{AigLatch}
use Rattle.syn_aiger.specs.Placing.{HasPlaces}
use Rattle.syn_aiger.proofs.Placed.{map_map, placed_at}
use Rattle.syn_aiger.proofs.file_numbers.place_latches.Goals as goal

pub loop-latch-preserved : goal.loop-latch-preserved
loop-latch-preserved c = record {
  count = omega (arith, c.in_ok-add.ensures.count, c.loop-latch.invariant.count);
  has = λ known h d.
      subst (λ (ns : List ℕ). HasPlaces c.add.new.self (known ++ ns)) (sym (map_map variable_of latch_literal (take (c.loop-latch.latch-index + 1) c.args.latches.now)))
      (placed_at (λ (a : AigLatch). variable_of (latch_literal a)) c.args.latches.now c.loop-latch.latch-index _ c.loop-latch.places c.add.new.self known
      (sym (ap (λ (ns : List ℕ). distinct_numbers (known ++ ns)) (map_map variable_of latch_literal c.args.latches.now)) ∙ d) c.loop-latch-test.true
      (subst (λ (ns : List ℕ). HasPlaces c.loop-latch.places (known ++ ns)) (map_map variable_of latch_literal (take c.loop-latch.latch-index c.args.latches.now)) (c.loop-latch.invariant.has known h d)) c.in_ok-add.ensures.places);
}
