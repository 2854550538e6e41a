use Rattle.std.proofs.Common.{arith}
use Rattle.syn_fraig.proofs.Tabled.{like_more, like_still}
use Rattle.syn_fraig.proofs.by_values.compare.Goals as goal

pub loop-node-preserved : goal.loop-node-preserved
loop-node-preserved c = record {
  here = λ rows round has.
      like_more rows round c.loop-node.alike c.loop-node.node c.judged.result (omega arith)
      (λ xs eight. (omega (arith, c.judged.ensures.there, has.long), c.judged.ensures.values _ xs eight (has.values xs eight)))
      (c.loop-node.invariant.here rows round has);
  kept = λ rows round long before.
      like_still rows round c.loop-node.alike c.loop-node.node c.judged.result (omega arith)
      (omega (arith, c.judged.ensures.there, long)) (omega (arith, long)) c.judged.ensures.kept (c.loop-node.invariant.kept rows round long before);
}

pub returns-clause-here : goal.returns-clause-here
returns-clause-here c = λ rows round has xs n eight lt. c.loop-node.invariant.here rows round has xs n eight (omega (arith, lt, has.long))
