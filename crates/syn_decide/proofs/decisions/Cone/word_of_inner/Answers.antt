use Rattle.std.proofs.Common.{None, ◌∙◌}
use Rattle.syn_decide.proofs.Leaves.{apart_test}
use Rattle.syn_decide.proofs.Sweeping.{for_past}
use Rattle.syn_decide.proofs.decisions.Cone.word_of_inner.Goals as goal

pub loop-place-preserved : goal.loop-place-preserved
loop-place-preserved c = for_past c.args.self.now.inner.now c.args.words.now c.args.node c.loop-place.place _ None c.loop-place-test.true c.requires (apart_test _ _ c.if-r-node.false) ∙ c.loop-place.invariant
