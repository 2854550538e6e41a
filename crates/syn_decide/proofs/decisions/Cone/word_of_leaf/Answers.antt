use Rattle.std.proofs.Common.{◌∙◌, arith}
use Rattle.syn_decide.proofs.Leaves.{apart_test, has_past, value_past}
use Rattle.syn_decide.proofs.decisions.Cone.word_of_leaf.Goals as goal

pub loop-place-preserved : goal.loop-place-preserved
loop-place-preserved c = record {
  has_rest = has_past c.args.node c.args.self.now.leaves.now c.loop-place.place c.loop-place-test.true (apart_test _ _ c.if-leaf-node.false) ∙ c.loop-place.invariant.has_rest;
  values = λ xs l e. value_past c.args.node c.args.self.now.leaves.now xs c.loop-place.place c.loop-place-test.true (omega (arith, l)) (apart_test _ _ c.if-leaf-node.false) ∙ c.loop-place.invariant.values xs l e;
}
