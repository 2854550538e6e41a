use Rattle.std.proofs.Common.{arith}
use Rattle.syn_rows.proofs.Nodes.{has_at}
use Rattle.syn_cones.proofs.Carrying.{leaf_floor, short_word}
use Rattle.syn_cones.proofs.Wording.{leaf_word}
use Rattle.syn_cones.proofs.carried.CutFunction.of_leaf.Goals as goal

pub returns : goal.returns
returns c = λ rows.
    let leaves = c.args.leaves.now in
    let n = c.args.node in
    let i = c.in_ok-i.i in
    let at = c.in_ok-i.ensures.some in
    record {
      word = short_word rows leaves n c.variable.result c.short.result c.requires.few c.short.ensures
          (leaf_word rows leaves n i c.variable.result at.0 (omega (arith, c.requires.few)) at.1 c.variable.ensures);
      min_inner = leaf_floor rows leaves n 4294967295 (has_at leaves i n at.0 at.1);
    }
