use Rattle.std.proofs.Common.{arith}
use Rattle.syn_aiger.specs.Values.{and_variable}
use Rattle.syn_aiger.proofs.Placed.{placed_at}
use Rattle.syn_aiger.proofs.file_numbers.place_ands.Goals as goal

pub loop-a-preserved : goal.loop-a-preserved
loop-a-preserved c = record {
  count = omega (arith, c.in_ok-add.ensures.count, c.loop-a.invariant.count);
  has = λ known h d. placed_at and_variable c.args.ands.now c.loop-a.a-index _ c.loop-a.places c.add.new.self known d c.loop-a-test.true (c.loop-a.invariant.has known h d) c.in_ok-add.ensures.places;
}
