use Rattle.std.proofs.Common.{rules, take}
use Rattle.syn_io.proofs.Portions.{written_more}
use Rattle.syn_io.proofs.pieces.write_whole.Goals as goal

pub loop-rest-preserved : goal.loop-rest-preserved
loop-rest-preserved g c =
    written_more (g.W.Write.contents c.args.writer.now) (g.W.Write.contents c.loop-rest.writer) (g.W.Write.contents c.write.new.self) c.args.bytes.now c.loop-rest.rest.now (take c.in-Ok.count c.loop-rest.rest.now) c.split_at.result.1.now c.loop-rest.invariant (search rules) c.in-Ok.ensures.bytes
