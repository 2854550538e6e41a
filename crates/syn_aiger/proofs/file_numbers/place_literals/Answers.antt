use Rattle.std.proofs.Common.{arith}
use Rattle.syn_aiger_files.specs.Files.{variable_of}
use Rattle.syn_aiger.proofs.Placed.{placed_at}
use Rattle.syn_aiger.proofs.file_numbers.place_literals.Goals as goal

pub loop-l-preserved : goal.loop-l-preserved
loop-l-preserved c = record {
  count = omega (arith, c.in_ok-add.ensures.count, c.loop-l.invariant.count);
  has = λ known h d. placed_at variable_of c.args.literals.now c.loop-l.l-index _ c.loop-l.places c.add.new.self known d c.loop-l-test.true (c.loop-l.invariant.has known h d) c.in_ok-add.ensures.places;
}
