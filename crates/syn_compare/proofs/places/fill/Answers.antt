use Rattle.std.proofs.Common.{arith}
use Rattle.syn_compare.proofs.Placed.{placed_more}
use Rattle.syn_compare.proofs.places.fill.Goals as goal

pub loop-place-preserved : goal.loop-place-preserved
loop-place-preserved c =
    placed_more c.args.names.now c.args.numbers.now c.loop-place.places c.loop-place.place c.len-count.ensures.distinct c.requires.below (omega (arith, c.loop-place-test.true)) c.loop-place.invariant
